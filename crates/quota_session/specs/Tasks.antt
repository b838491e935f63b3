-- The tasks of a script in mode `quota`, each with a quota of pages and its objects by id; the heap that a task would have for itself (`own_heap`); and for a
-- call of a task and a quota line the reply and the state after it.
use Rattle.std.specs.Prelude.{ℕ, Bool, true, false, List, Option, Some, None, codes, if◌then◌else◌, nat_eq, replicate, slice_index, slice_set}
use Rattle.run_model.specs.Terms.{Command, empty, Free, Malloc, Moving, Objects, Profile, Read, Reply, said, Walk, Write}
use Rattle.quota_model.specs.Refusals.{quota_refusal}
use Rattle.quota_model.specs.declared.results.QuotaFault.{QuotaFault}
use Rattle.quota_model.specs.declared.results.QuotaFault.TheVariants.{Sum, Used}
use Rattle.script_laws.specs.ById.{ById, begun}
use Rattle.script_laws.specs.RepliesById.{objects_after, reply_by_id}

-- the settings of the heap; and for each task its quota in pages and its objects by id
pub record Tasks : Type 0 where
  pub profile : Profile
  pub quotas : List ℕ
  pub objects : ℕ → Objects

-- the sixteen tasks after the `heap` line with the settings `s`: no objects, and all quotas 0
abbrev pub no_tasks : Profile → Tasks
no_tasks s = record { profile = s; quotas = replicate 16 0; objects = λ task. empty }

-- the moving heap that a task would have for itself: its quota is the number of pages, each class has the bound 1, and the objects are the task's
abbrev pub own_heap : Tasks → ℕ → ById
own_heap s task = record (begun Moving (record s.profile { pages = slice_index s.quotas task; k = 1 })) { objects = s.objects task }

-- true for the commands of a task on its own objects: `m`, `f`, `w`, `r`, `walk`
abbrev pub is_for_task : Command → Bool
is_for_task (Malloc id bytes) = true
is_for_task (Free id) = true
is_for_task (Write id at bytes) = true
is_for_task (Read id at count) = true
is_for_task Walk = true
is_for_task command = false

-- in state `s`, the reply to a command of a task: for a command on its objects the reply of its own heap, else `none`
abbrev pub task_reply : Tasks → ℕ → Command → Reply
task_reply s task command = if is_for_task command then reply_by_id (own_heap s task) command else said (codes "none")

-- the objects by id of the task after one of its commands in state `s`
abbrev pub task_leaves : Tasks → ℕ → Command → Objects
task_leaves s task command = if is_for_task command then objects_after (own_heap s task) command else s.objects task

-- an item of a list: `calls`, a command of a task, or `sets`, a line that sets the quota of a task to some pages
pub data TaskItem : Type 0 where
  calls : (task : ℕ) → Command → TaskItem
  sets : (task pages : ℕ) → TaskItem

-- why the line that sets the task's quota to `pages` is refused; None if it is accepted
abbrev pub set_refusal : Tasks → ℕ → ℕ → Option QuotaFault
set_refusal s task pages = quota_refusal s.profile s.quotas task pages (s.objects task)

-- the reply to a quota line: `refused sum`, `refused used` or `ok`
abbrev pub quota_text : Option QuotaFault → List ℕ
quota_text (Some Sum) = codes "refused sum"
quota_text (Some Used) = codes "refused used"
quota_text None = codes "ok"

-- the quotas after a quota line; a refused one changes none
abbrev pub quotas_after : Option QuotaFault → List ℕ → ℕ → ℕ → List ℕ
quotas_after (Some e) quotas task pages = quotas
quotas_after None quotas task pages = slice_set quotas task pages

-- the reply to a call or to a quota line in state `s`
abbrev pub item_reply : Tasks → TaskItem → Reply
item_reply s (calls task command) = task_reply s task command
item_reply s (sets task pages) = said (quota_text (set_refusal s task pages))

-- the state after an item in state `s`: a call changes the objects of its own task alone, a quota line one quota
abbrev pub after_item : Tasks → TaskItem → Tasks
after_item s (calls task command) = record s { objects = λ u. if nat_eq u task then task_leaves s task command else s.objects u }
after_item s (sets task pages) = record s { quotas = quotas_after (set_refusal s task pages) s.quotas task pages }
