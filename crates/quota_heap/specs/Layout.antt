-- A heap of tasks and each of its tasks, as the model sees them: classes, tables, objects, addresses, quotas and pages; the state that contracts show; the
-- invariant; and what all tasks share, and a task, in a heap that was just opened. g is what all tasks share (settings, region, used slots, free pages), x a
-- task, h the heap. No public clause cites this module.
use Rattle.std.specs.Prelude.{◌≡◌, ◌≢◌, ℕ, ◌+◌, ◌*◌, ◌<◌, List, true, Option, Some, None, length, map, replicate, slice_get, slice_index, sum, sum_by}
use Rattle.std.specs.Ordering.{nat_cmp}
use Rattle.std.specs.FinMap.{FinMap, get}
use Rattle.cf_base.specs.Settings.{profile_of}
use Rattle.cf_base.specs.declared.kind.Layout.TheVariants.{Words}
use Rattle.cf_base.specs.declared.settings.Settings.{Settings}
use Rattle.class_lists.specs.PageLists.{empty_lists}
use Rattle.page_model.specs.Arrangement.{IsSound, live, pages_needed}
use Rattle.page_model.specs.Bytes.{held_at}
use Rattle.page_model.specs.Held.{Held, Objects, Placed, objects}
use Rattle.page_model.specs.Image.{IsSlotImage, header_word}
use Rattle.page_model.specs.Paging.{Paging, classes}
use Rattle.page_slots.specs.Occupying.{Occupies, FitPagesShared}
use Rattle.page_slots.specs.Owner.{Owner}
use Rattle.page_slots.specs.PageTables.{AreFirst, tables_with}
use Rattle.page_slots.specs.Tables.{AreOthers, Tables}
use Rattle.proxy_table.specs.Proxies.{AreBelowLimit, no_proxies}
use Rattle.quota_model.specs.Joined.{joined_places}
use Rattle.quota_model.specs.Parts.{key_of}
use Rattle.quota_model.specs.Refusals.{task_paging}
use Rattle.quota_model.specs.Shared.{AreQuotas, IsShared}
use Rattle.size_classes.specs.Table.{table_of}
use Rattle.quota_heap.specs.State.{QuotaState, closed_tasks}
use Rattle.quota_heap.specs.declared.shared_pages.SharedPages.{SharedPages}
use Rattle.quota_heap.specs.declared.open_tasks.OpenTasks.{OpenTasks}
use Rattle.quota_heap.specs.declared.task.Task.{Task}

-- the pages and size classes that all tasks share, each class with the bound 1
abbrev pub shared_paging : SharedPages → Paging
shared_paging g = task_paging (profile_of g.settings)

-- the tables that one task sees: used slots, its own page lists, and the free pages
abbrev pub tables_of : SharedPages → Task → Tables
tables_of g x = tables_with g.tables x.lists

-- task x as an owner of pages
abbrev pub as_owner : SharedPages → Task → Owner
as_owner g x = record {
  paging = shared_paging g;
  classes = g.tables.classes;
  bound = λ c. 1;
  words = g.region;
  places = x.proxies.places;
  tables = tables_of g x;
}

-- a task's live objects by number; the words at each address hold the length and the bytes
abbrev pub held_of : SharedPages → Task → Held
held_of g x = held_at g.region x.proxies.places

-- a task's live objects by number, each as its bytes alone
abbrev pub objects_of : SharedPages → Task → Objects
objects_of g x = objects (held_of g x)

-- the invariant of the shared pages: the class table is that of the page size, and the region has the words of all pages
pub record ArePages (g : SharedPages) : Type 0 where
  pub table : g.tables.classes ≡ table_of g.settings.page_words Words
  pub words_long : length g.region ≡ g.settings.pages * g.settings.page_words

-- The invariant of the task x, whose number is t: its objects are a sound arrangement; its tables hold the slots that the objects use; the header of each
-- object holds its key, made of t and its number, and its length; the task's proxies and counts are those of its objects.
pub record IsTask (g : SharedPages) (t : ℕ) (x : Task) : Type 0 where
  pub sound : IsSound (shared_paging g) (held_of g x)
  pub serve : FitPagesShared (shared_paging g) (tables_of g x)
  pub occupied : Occupies (shared_paging g) (held_of g x) (tables_of g x)
  pub headed : (q : ℕ) (y : Placed) → get (held_of g x) q ≡ Some y → slice_index g.region y.place ≡ header_word (key_of t q) (length y.bytes)
  pub numbers : x.proxies.limit ≡ g.settings.proxies
  pub handles : AreBelowLimit x.proxies
  pub live_long : length x.live ≡ 128
  pub counted : (c : ℕ) → c < classes (shared_paging g) → slice_index x.live c ≡ live (shared_paging g) (objects_of g x) c
  pub pages : x.pages ≡ pages_needed (shared_paging g) (objects_of g x)

-- x is task t of the heap h
abbrev pub IsTaskIn : OpenTasks → ℕ → Task → Type 0
IsTaskIn h t x = slice_get h.tasks.items t ≡ Some x

-- for each task in turn, the addresses of its objects by their numbers
abbrev pub places_of : List Task → List (FinMap nat_cmp ℕ)
places_of tasks = map (λ (x : Task). x.proxies.places) tasks

-- for each task in turn, its quota in pages
abbrev pub quotas_of : List Task → List ℕ
quotas_of tasks = map (λ (x : Task). x.quota) tasks

-- the number of pages that all tasks together use
abbrev pub pages_of : List Task → ℕ
pages_of tasks = sum_by (λ (x : Task). x.pages) tasks

-- the objects of all tasks in one map, each under the key made of its task and its number
abbrev pub tasks_held_in : OpenTasks → Held
tasks_held_in h = held_at h.shared_pages.region (joined_places (places_of h.tasks.items))

-- the state of an open heap in contracts
abbrev pub tasks_state_of : OpenTasks → QuotaState
tasks_state_of h = record {
  is_open = true;
  profile = profile_of h.shared_pages.settings;
  quotas = quotas_of h.tasks.items;
  held = tasks_held_in h;
  words = h.shared_pages.region;
}

-- The invariant of an open heap of sixteen tasks. `task`: each task keeps its own invariant. `others`: the pages of one task are foreign to every other task.
-- `shared`: no page has objects of two tasks. `image`: the words are those of all tasks' objects, and zeros elsewhere. `quotas` and `granted`: the quotas
-- are valid, and the heap's field `granted` is their sum. `accounted`: the free pages and those that tasks use are all pages of the region.
pub record IsValid (h : OpenTasks) : Type 0 where
  pub shared_pages : ArePages h.shared_pages
  pub many : length h.tasks.items ≡ 16
  pub task : (t : ℕ) (x : Task) → IsTaskIn h t x → IsTask h.shared_pages t x
  pub others : (t u : ℕ) (x y : Task) → IsTaskIn h t x → IsTaskIn h u y → u ≢ t → AreOthers (tables_of h.shared_pages x) y.lists
  pub shared : IsShared (profile_of h.shared_pages.settings) (tasks_held_in h)
  pub image : IsSlotImage (shared_paging h.shared_pages) (tasks_held_in h) h.shared_pages.region
  pub quotas : AreQuotas (profile_of h.shared_pages.settings) (quotas_of h.tasks.items) (tasks_held_in h)
  pub granted : h.granted ≡ sum (quotas_of h.tasks.items)
  pub accounted : length h.shared_pages.tables.pool.free + pages_of h.tasks.items ≡ h.shared_pages.settings.pages

-- the state that contracts show of a heap, open or closed
abbrev pub tasks_state_in : Option OpenTasks → QuotaState
tasks_state_in None = closed_tasks
tasks_state_in (Some h) = tasks_state_of h

-- the invariant of a heap, open or closed
abbrev pub IsValidTasksIn : Option OpenTasks → Type 0
IsValidTasksIn None = Unit {0}
IsValidTasksIn (Some h) = IsValid h

-- the shared pages of a heap that was just opened: all pages are free and all words are 0
pub record AreFirstPages (s : Settings) (g : SharedPages) : Type 0 where
  pub settings : g.settings ≡ s
  pub tables : AreFirst s Words g.tables
  pub region : g.region ≡ replicate (s.pages * s.page_words) 0

-- a task without objects, whose quota is 0, with tables for this number of classes, pages and proxies
abbrev pub first_task : ℕ → ℕ → ℕ → Task
first_task classes pages proxies = record {
  quota = 0;
  pages = 0;
  live = replicate 128 0;
  lists = empty_lists classes pages;
  proxies = no_proxies proxies;
}
