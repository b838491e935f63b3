-- What a call of one task leaves as it was: the settings, and all that another task has.
use Rattle.std.specs.Prelude.{◌≡◌, ℕ}
use Rattle.quota_heap.specs.State.{held_by, quota_of}
use Rattle.norphuen_tasks.specs.Handles.{handles_by}
use Rattle.norphuen_tasks.specs.TasksState.{TasksState}

-- the settings and, of task u, the objects, the quota and the handles are as before
pub record LeavesTaskAlone (u : ℕ) (old new : TasksState) : Type 0 where
  pub profile : new.heap.profile ≡ old.heap.profile
  pub objects : held_by new.heap u ≡ held_by old.heap u
  pub quota : quota_of new.heap u ≡ quota_of old.heap u
  pub handles : handles_by new.handles u ≡ handles_by old.handles u
