-- Which calls of a source or sink in memory fail, and how many bytes the others move at most.
use Rattle.std.specs.Prelude.{ℕ, Bool, true, false, ◌==◌, List, length, min, max, slice_index, nat_lt, if◌then◌else◌}
use Rattle.std.specs.List.{list_any}
use Rattle.cf_io.specs.Feeds.{one_more}

-- The calls of a source or sink, numbered from 0: those in `fails` fail, and `cuts[j]` is the most bytes that call j moves (0 counts as 1; a call past the end
-- of `cuts` has no limit). `call` is the number of the next call, `faults` how many calls failed, and `failed` whether the last one did.
pub record Schedule : Type 0 where
  pub cuts : List ℕ
  pub fails : List ℕ
  pub call : ℕ
  pub faults : ℕ
  pub failed : Bool

-- the schedule with these cuts and these failing calls, before its first call
abbrev pub planned : List ℕ → List ℕ → Schedule
planned cuts fails = record { cuts = cuts; fails = fails; call = 0; faults = 0; failed = false }

-- whether the next call of a source or sink with the schedule s is one of those that fail
abbrev pub is_due : Schedule → Bool
is_due s = list_any (λ j. j == s.call) s.fails

-- how many bytes the next call moves by the schedule s if n could be moved: at most its entry in `cuts`, where 0 counts as 1; without an entry all n
abbrev pub count_moved : Schedule → ℕ → ℕ
count_moved s n = if nat_lt s.call (length s.cuts) then min n (max 1 (slice_index s.cuts s.call)) else n

-- the schedule s after a call that failed
abbrev pub gone_wrong : Schedule → Schedule
gone_wrong s = record s { call = one_more s.call; faults = one_more s.faults; failed = true }

-- the schedule s after a call that did not fail
abbrev pub gone_well : Schedule → Schedule
gone_well s = record s { call = one_more s.call; failed = false }
