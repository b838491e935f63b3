-- The counters of a session (the last step bound, how many objects were moved into freed slots, the words of these slots): those of a new session, and how a
-- call that moves an object changes them.
use Rattle.std.specs.Prelude.{ℕ, ◌+◌, ◌-◌, ◌^◌, Option, Some, None, min}
use Rattle.id_table.specs.declared.counters.Counters.{Counters}

-- the counters of a new session
abbrev pub no_counts : Counters
no_counts = record { bound = 0; moves = 0; words = 0 }

-- the counters c after a call that moved an object (`Some`) between slots of `slot_words` words, or moved none; `moves` and `words` saturate at 2^64 - 1
abbrev pub with_move : {T : Type 0} → Counters → Option T → ℕ → Counters
with_move c None slot_words = c
with_move c (Some h) slot_words = record c { moves = min (c.moves + 1) (2 ^ 64 - 1); words = min (c.words + slot_words) (2 ^ 64 - 1) }
