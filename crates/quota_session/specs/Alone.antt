-- What the replies to a task depend on: the settings, its quota, and its objects by id instead of by handle; and when two runs are alike for a task.
use Rattle.std.specs.Prelude.{◌≡◌, ℕ}
use Rattle.quota_heap.specs.State.{objects_by, quota_of}
use Rattle.quota_session.specs.Tasks.{Tasks}
use Rattle.run_model.specs.ById.{objects_by_id}
use Rattle.quota_session.specs.QuotaRun.{QuotaRun, ids_of}

-- the settings of a run, and for each task its quota and its objects by id: without handles and addresses
abbrev pub tasks_of : QuotaRun → Tasks
tasks_of s = record { profile = s.heap.profile; quotas = s.heap.quotas; objects = λ task. objects_by_id (ids_of s.session task) (objects_by s.heap task) }

-- The two runs `one` and `other` are alike for a task: it is the present task of both, for which their next `m`, `f`, `w`, `r` or `walk` acts (fields `here` and
-- `there`); and the settings, the task's quota and its objects by id are equal in both.
pub record AreAlikeFor (task : ℕ) (one other : QuotaRun) : Type 0 where
  pub here : one.session.present ≡ task
  pub there : other.session.present ≡ task
  pub profile : other.heap.profile ≡ one.heap.profile
  pub quota : quota_of other.heap task ≡ quota_of one.heap task
  pub objects : (tasks_of other).objects task ≡ (tasks_of one).objects task
