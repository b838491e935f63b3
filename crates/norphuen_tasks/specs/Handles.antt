-- The handles that C has of the objects of sixteen tasks: a list for each task, as `c_base` has it for one heap; and their memory.
use Rattle.std.specs.Prelude.{◌≡◌, ℕ, ◌*◌, List, [], Result, Ok, Err, length, max, slice_index_or, slice_set}
use Rattle.std.specs.List.{All, fold}
use Rattle.cf_base.specs.Needed.{both, one_block, times}
use Rattle.cf_base.specs.declared.results.Freed.{Freed}
use Rattle.cf_base.specs.declared.results.NotLive.{NotLive}
use Rattle.cf_base.specs.declared.needed.BytesNeeded.{BytesNeeded}
use Rattle.c_base.specs.HandleRules.{AreFirstHandles}
use Rattle.c_base.specs.Handles.{largest, raised_by}

-- the handles of a task
abbrev pub handles_by : List (List ℕ) → ℕ → List ℕ
handles_by handles task = slice_index_or handles task []

-- the handles of sixteen tasks in a heap that was just opened, with this many proxies for each; all are larger than `last`, or begin at 0 if too few are larger
pub record AreFirstOfTasks (proxies last : ℕ) (handles : List (List ℕ)) : Type 0 where
  pub many : length handles ≡ 16
  pub each : All (AreFirstHandles proxies last) handles

-- the handles after a free with this result of what `handle` names in a task: if it succeeds, the number's handle becomes that of the next generation; all
-- others stay
abbrev pub raised_of : List (List ℕ) → ℕ → ℕ → Result Freed NotLive → List (List ℕ)
raised_of handles task handle (Ok f) = slice_set handles task (raised_by {E = NotLive} (handles_by handles task) handle (Ok f))
raised_of handles task handle (Err e) = handles

-- the largest handle of all tasks
abbrev pub largest_of : List (List ℕ) → ℕ
largest_of handles = fold (λ (a : ℕ) (hs : List ℕ). max a (largest hs)) 0 handles

-- the memory for the handles of sixteen tasks, `count` for each
abbrev pub handles_bytes : ℕ → BytesNeeded
handles_bytes count = both (one_block (16 * 32)) (times 16 (one_block (4 * count)))
