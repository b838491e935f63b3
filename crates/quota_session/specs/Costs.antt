-- The most steps that each command of mode `quota` takes on the heap that sixteen tasks share; only `m`, `f`, `w` and `r` take any.
use Rattle.std.specs.Prelude.{ℕ, Option, Some, None, if◌then◌else◌, is_some, length}
use Rattle.run_model.specs.Terms.{Command, Free, get, Ids, Malloc, Placed, Read, Write}
use Rattle.page_model.specs.Image.{slot_for}
use Rattle.quota_heap.specs.Costs.{most_of_access, most_of_free, most_of_malloc}
use Rattle.quota_heap.specs.State.{QuotaState}
use Rattle.quota_model.specs.Refusals.{task_paging}
use Rattle.quota_session.specs.QuotaRun.{QuotaRun, present_run}
use Rattle.quota_session.specs.TaskRun.{TaskRun, task_object}

-- the most steps of a malloc for an id; 0 if the id is live, since the heap isn't called then
abbrev pub id_malloc_steps : Ids → ℕ → ℕ
id_malloc_steps ids id = if is_some (get ids id) then 0 else most_of_malloc

-- the most steps of a read or a write of `count` bytes from byte `from` on; 0 if the id isn't live
abbrev pub id_access_steps : Ids → ℕ → ℕ → ℕ → ℕ
id_access_steps ids id from count = if is_some (get ids id) then most_of_access from count else 0

-- the most steps of a free of the object x, by the words of its slot; 0 if there is no object
abbrev pub most_of_object_free : QuotaState → Option Placed → ℕ
most_of_object_free s None = 0
most_of_object_free s (Some x) = most_of_free (slot_for (task_paging s.profile) (length x.bytes))

-- the most steps of a command of the task `task`; all but `m`, `f`, `w` and `r` take none
abbrev pub task_steps : ℕ → TaskRun → Command → ℕ
task_steps task s (Malloc id bytes) = id_malloc_steps s.ids id
task_steps task s (Free id) = most_of_object_free s.heap (task_object task s id)
task_steps task s (Write id from bytes) = id_access_steps s.ids id from (length bytes)
task_steps task s (Read id from count) = id_access_steps s.ids id from count
task_steps task s command = 0

-- the most steps of any command of a run: `m`, `f`, `w` and `r` are those of the present task
abbrev pub most_tasks_steps : QuotaRun → Command → ℕ
most_tasks_steps s command = task_steps s.session.present (present_run s.session s.heap) command
