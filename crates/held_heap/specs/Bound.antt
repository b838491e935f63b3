-- For `Held` over a manager with pages: a call that sets how many pages of one class may be partly full.
use Rattle.std.specs.Prelude.{◌≡◌, ℕ, ℤ, pos, Option, Some, None, if◌then◌else◌, nat_eq, nat_lt}
use Rattle.std.specs.FinMap.{len}
use Rattle.cf_model.specs.Answers.{class_with, with_bound}
use Rattle.cf_model.specs.Rules.{KeepsRules}
use Rattle.cf_model.specs.State.{HeapState}
use Rattle.held_heap.specs.HeldState.{HeldState}

-- the class whose slots have `words` words, if no object is live and k is from 1 to 64; else none
abbrev pub class_with_bound : HeapState → ℕ → ℕ → Option ℕ
class_with_bound s words k =
    if nat_lt 0 k then (if nat_lt k 65 then (if nat_eq (len s.held) 0 then class_with s.kind s words else None) else None) else None

-- the code of a call that sets the bound of this class to k: 0 if there is a class; else 13 (`BOUND`) if k is out of range, 20 (`LIVE`) if an object is live,
-- or 4 (`UNKNOWN`)
abbrev pub bound_code : HeapState → ℕ → Option ℕ → ℤ
bound_code s k (Some c) = pos 0
bound_code s k None = if nat_lt 0 k then (if nat_lt k 65 then (if nat_eq (len s.held) 0 then pos 4 else pos 20) else pos 13) else pos 13

-- a call that sets the bound of the class with slots of `words` words to k; it counts no steps
pub record IsBoundCall (old : HeldState) (words k : ℕ) (code : ℤ) (new : HeldState) : Type 0 where
  pub by_code : code ≡ bound_code old.heap k (class_with_bound old.heap words k)
  pub whole : new ≡ record old { heap = with_bound old.heap (class_with_bound old.heap words k) k }
  pub rules : code ≡ pos 0 → KeepsRules new.heap
