-- For the clauses of `QuotaHeap`: in an open heap no page has objects of two tasks, each task is within its quota, and the words are the image of all objects
-- (`KeepsTasks`); the pages that a task uses are those that its objects need.
use Rattle.std.proofs.Common.{◌≡◌, ℕ, Option, Some, None, refl}
use Rattle.std.specs.Prelude.{is_some, true}
use Rattle.std.proofs.lemmas.Bool.{false≢true}
use Rattle.cf_base.specs.Settings.{profile_of}
use Rattle.page_model.specs.Arrangement.{pages_needed, used_pages}
use Rattle.page_model.proofs.CallerLemmas.{used_at_one}
use Rattle.quota_model.proofs.CallerLemmas.{own_image}
use Rattle.quota_model.specs.Refusals.{task_paging}
use Rattle.quota_model.proofs.CallerLemmas.{tasks_at_one, tasks_paged}
use Rattle.quota_heap.specs.Layout.{IsValid, IsValidTasksIn, tasks_held_in, tasks_state_in, tasks_state_of}
use Rattle.quota_heap.specs.State.{KeepsTasks, QuotaState, held_by, objects_by}
use Rattle.quota_heap.specs.declared.open_tasks.OpenTasks.{OpenTasks}

pub rules : (h : OpenTasks) → IsValid h → KeepsTasks (tasks_state_of h)
rules h k = record {
  opened = refl;
  page_size = h.shared_pages.settings.page_size;
  few_proxies = h.shared_pages.settings.few_proxies;
  shared = k.shared;
  quotas = k.quotas;
  region = k.shared_pages.words_long;
  image = own_image (profile_of h.shared_pages.settings) (tasks_held_in h) k.shared h.shared_pages.settings.page_size h.shared_pages.region k.image;
  slots = k.image;
}

-- the pages that a task uses are those that its objects need
pub pages_used : (s : QuotaState) → KeepsTasks s → (task : ℕ)
    → used_pages (task_paging s.profile) (held_by s task) ≡ pages_needed (task_paging s.profile) (objects_by s task)
pages_used s k task = used_at_one (task_paging s.profile) (tasks_paged s.profile k.page_size) (tasks_at_one s.profile) (held_by s task) (k.shared.sound task)

-- a heap that is open and valid keeps the rules that callers see
pub open_rules : (o : Option OpenTasks) → IsValidTasksIn o → is_some o ≡ true → KeepsTasks (tasks_state_in o)
open_rules None k is = absurd (false≢true is)
open_rules (Some h) k is = rules h k
