-- For `TaskHandles`: the handles of a task are the element with its number.
use Rattle.std.proofs.Common.{◌≡◌, ℕ, ◌<◌, List, [], length, get_or, sym}
use Rattle.std.proofs.lemmas.Option.{get_or_from_slice_get, slice_get_read}
use Rattle.norphuen_tasks.specs.Handles.{handles_by}

-- what the code reads at the task's number is what clauses call its handles
pub read_is : (all : List (List ℕ)) (task : ℕ) (x : List ℕ) → length all ≡ 16 → task < 16 → x ≡ get_or all task x → handles_by all task ≡ x
read_is all task x many lt is = get_or_from_slice_get all task x [] (slice_get_read all 16 task x (sym many) lt is)
