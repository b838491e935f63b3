-- One task of a session over tasks: its ids and the heap, the calls of the heap for it, and what `m`, `f`, `w`, `r` and `walk`, which name no task, do for it
-- and reply.
use Rattle.std.specs.Prelude.{◌≡◌, ℕ, ◌-◌, ◌++◌, List, Option, Some, None, codes, filter, map, nat_eq, not}
use Rattle.std.specs.List.{range_with_len}
use Rattle.run_model.specs.Terms.{classes, Command, Freed, get, Ids, Placed, Refusal, Reply, said, Walk}
use Rattle.cf_base.specs.declared.results.Totals.{Totals}
use Rattle.script_laws.specs.ObjectRun.{Calls, ObjectRun, ObjectStep, object_run}
use Rattle.page_model.specs.Arrangement.{live, used_pages}
use Rattle.page_model.specs.Figures.{figures_of, totals_of}
use Rattle.quota_heap.specs.State.{KeepsTasks, QuotaState, held_by, objects_by, quota_of}
use Rattle.quota_heap.specs.Steps.{FreesOfTask, IsTaskMallocStep, IsTaskWriteStep}
use Rattle.quota_model.specs.Refusals.{task_paging}
use Rattle.run_model.specs.Replies.{malloc_text}
use Rattle.run_model.specs.Reports.{class_line, total_line}

-- the live ids of a task with the handles that they name, and the heap of all tasks
abbrev pub TaskRun : Type 0
TaskRun = ObjectRun QuotaState

-- the run of a task with these live ids, on the heap of all tasks
abbrev pub task_run : Ids → QuotaState → TaskRun
task_run ids heap = object_run ids heap

-- the object that an id of the task names; None if the id isn't live, or its handle isn't
abbrev pub task_object : ℕ → TaskRun → ℕ → Option Placed
task_object task s id = elim (get s.ids id) [ None ↦ None | Some h ↦ get (held_by s.heap task) h ]

-- the classes of a task with live objects, in rising order
abbrev pub task_classes : QuotaState → ℕ → List ℕ
task_classes s task = filter (λ c. not (nat_eq (live (task_paging s.profile) (objects_by s task) c) 0)) (range_with_len 0 (classes (task_paging s.profile)))

-- the report lines of these classes of a task
abbrev pub class_lines : QuotaState → ℕ → List ℕ → Reply
class_lines s task cs = map (λ c. class_line (figures_of (task_paging s.profile) (held_by s task) c)) cs

-- the totals of a task; its free pages are the pages of its quota that it doesn't use
abbrev pub task_totals : QuotaState → ℕ → Totals
task_totals s task = record (totals_of (task_paging s.profile) (held_by s task)) {
  free = quota_of s task - used_pages (task_paging s.profile) (held_by s task);
}

-- walk: a line for each class of the task with live objects, and then the line of the totals
abbrev pub task_report : QuotaState → ℕ → Reply
task_report s task = class_lines s task (task_classes s task) ++ said (total_line (task_totals s task))

-- the reply to a command that changes nothing and names no object: to `walk` the report; `none` to a command of another mode
abbrev pub task_shown : QuotaState → ℕ → Command → Reply
task_shown s task Walk = task_report s task
task_shown s task command = said (codes "none")

-- the calls of the heap for a task; it refuses no free of a live object
abbrev pub task_calls : ℕ → Calls QuotaState Refusal ⊥
task_calls task = record {
  is_ready = KeepsTasks;
  objects = λ s. objects_by s task;
  mallocs = λ old bytes answer new. IsTaskMallocStep old task bytes answer new × KeepsTasks new;
  frees = λ old h fault new. (freed : Freed) × FreesOfTask old task h freed new × KeepsTasks new;
  writes = λ old position bytes answer new. IsTaskWriteStep old task position bytes answer new × KeepsTasks new;
  malloc_text = malloc_text;
  free_text = λ fault. codes "ok";
  others = λ old command reply new. (reply ≡ task_shown old.heap task command) × (new ≡ old);
}

-- One command of a task: the run of the task before it, its reply, and the run after it.
abbrev pub TaskStep : ℕ → TaskRun → Command → Reply → TaskRun → Type 0
TaskStep task = ObjectStep (task_calls task)
