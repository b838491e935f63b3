-- The most steps of a call of the sliced heap, as a caller in C gets them before the call. A refused call takes at most as many.
use Rattle.std.specs.Prelude.{ℕ, ◌+◌}
use Rattle.cf_model.specs.Costs.{words_touched}

-- the most steps of a malloc
abbrev pub most_malloc : ℕ
most_malloc = 17

-- the most steps of a free, with the first slice of its job, in a heap with this quantum
abbrev pub most_free : ℕ → ℕ
most_free quantum = 23 + quantum

-- the most steps of a slice in a heap with this quantum
abbrev pub most_step : ℕ → ℕ
most_step quantum = 15 + quantum

-- the most steps of a read or a write of `count` bytes from byte `from` on; one that succeeds takes exactly these
abbrev pub most_access : ℕ → ℕ → ℕ
most_access from count = 2 + words_touched from count

-- the most steps of the test whether a malloc would be refused
abbrev pub most_has_room : ℕ
most_has_room = 1

-- the most steps of a call for the length of an object
abbrev pub most_length : ℕ
most_length = 2
