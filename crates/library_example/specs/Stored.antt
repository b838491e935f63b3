-- For `first_object`, `store` and `read_and_free`: the bytes of the example's object, when it is a heap's only object, and the result of reading its first two
-- bytes.
use Rattle.std.specs.Prelude.{◌≡◌, ℕ, ◌-◌, List, ◌++◌, Result, Ok, Err, length, replicate, true}
use Rattle.std.specs.FinMap.{empty, insert}
use Rattle.cf_base.specs.declared.results.AccessFault.{AccessFault}
use Rattle.page_model.specs.Held.{objects}
use Rattle.cf_model.specs.State.{HeapState}
use Rattle.cf_model.specs.Steps.{IsFault, Position, ReadsBytes}

-- the 176 bytes of an object: `bytes`, of which there must be at most 176, and zeros after them
abbrev pub padded_to_176 : List ℕ → List ℕ
padded_to_176 bytes = bytes ++ replicate (176 - length bytes) 0

-- the heap s is open, and its one object has the handle h and 176 bytes: `bytes`, and zeros after them
pub record HoldsOne (s : HeapState) (h : ℕ) (bytes : List ℕ) : Type 0 where
  pub open_now : s.is_open ≡ true
  pub one : objects s.held ≡ insert empty h (padded_to_176 bytes)

-- where a read of object h from its first byte on begins
abbrev pub start_of : ℕ → Position
start_of h = record { number = h; from = 0 }

-- in the heap s, the result of a read of the first two bytes of object h: the bytes, or the fault
abbrev pub ReadsStart : HeapState → ℕ → Result (List ℕ) AccessFault → Type 0
ReadsStart s h (Ok bytes) = ReadsBytes s (start_of h) 2 bytes
ReadsStart s h (Err cause) = IsFault s (start_of h) 2 cause
