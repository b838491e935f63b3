-- The state of a heap of tasks that public contracts show, and the rules that it keeps while open.
use Rattle.std.specs.Prelude.{◌≡◌, ℕ, ◌≤◌, Bool, true, false, List, [], IsTrue, length, replicate, slice_index, refl}
use Rattle.std.specs.FinMap as map
use Rattle.std.specs.Coded.{Coded, code_by, coded×, coded_ℕ, coded_list, coded_bool}
use Rattle.cf_base.specs.Limits.{is_page_size}
use Rattle.cf_base.specs.Settings.{Profile}
use Rattle.cf_model.specs.State.{no_profile, profile_code, region_words}
use Rattle.page_model.specs.Held.{Held, Objects, objects, placed_code}
use Rattle.page_model.specs.Image.{IsImage, IsSlotImage}
use Rattle.quota_model.specs.Parts.{objects_of_task}
use Rattle.quota_model.specs.Refusals.{task_paging}
use Rattle.quota_model.specs.Shared.{AreQuotas, IsShared}

-- Whether the heap is open, its settings, the quota of each task in pages, the objects of all tasks, and the words of the region. The key of an object in
-- `held` is its task times 65,536, plus its number in that task (`key_of`).
pub record QuotaState : Type 0 where
  pub is_open : Bool
  pub profile : Profile
  pub quotas : List ℕ
  pub held : Held
  pub words : List ℕ

-- the state of a closed heap
abbrev pub closed_tasks : QuotaState
closed_tasks = record { is_open = false; profile = no_profile; quotas = []; held = map.empty; words = [] }

-- the state of a heap that was just opened with the settings p: no task has an object, all quotas are 0, and all words are 0
abbrev pub empty_state : Profile → QuotaState
empty_state p = record { is_open = true; profile = p; quotas = replicate 16 0; held = map.empty; words = replicate (region_words p) 0 }

-- the objects of a task by their numbers in it, each with its address and its bytes
abbrev pub held_by : QuotaState → ℕ → Held
held_by s task = objects_of_task s.held task

-- the objects of a task by their numbers in it, each as its bytes alone
abbrev pub objects_by : QuotaState → ℕ → Objects
objects_by s task = objects (held_by s task)

-- a task's quota in pages
abbrev pub quota_of : QuotaState → ℕ → ℕ
quota_of s task = slice_index s.quotas task

-- The rules of an open heap: no page has objects of two tasks, each task is within its quota, and the words are the image of all objects.
pub record KeepsTasks (s : QuotaState) : Type 0 where
  pub opened : IsTrue s.is_open
  pub page_size : IsTrue (is_page_size s.profile.page_words)
  pub few_proxies : s.profile.proxies ≤ 65536
  pub shared : IsShared s.profile s.held
  pub quotas : AreQuotas s.profile s.quotas s.held
  pub region : length s.words ≡ region_words s.profile
  pub image : IsImage s.held s.words
  pub slots : IsSlotImage (task_paging s.profile) s.held s.words

-- the state as nested pairs, which the trait `Model` needs
abbrev pub tasks_state_code : Coded QuotaState
tasks_state_code =
    code_by (Bool × (Profile × (List ℕ × (Held × List ℕ))))
    (coded× coded_bool (coded× profile_code (coded× (coded_list coded_ℕ) (coded× (map.code coded_ℕ placed_code) (coded_list coded_ℕ)))))
    (λ s. (s.is_open, (s.profile, (s.quotas, (s.held, s.words)))))
    (λ q. record { is_open = q.0; profile = q.1.0; quotas = q.1.1.0; held = q.1.1.1.0; words = q.1.1.1.1 }) (λ _. refl)
