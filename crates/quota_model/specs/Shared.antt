-- Sixteen tasks on one region: the rules for their objects and quotas, and what a malloc and a free of one do. The maps m and `old` have all objects by key,
-- task times 65,536 plus number.
use Rattle.std.specs.Prelude.{◌≡◌, ℕ, ◌<◌, ◌≤◌, List, Option, Some, None, length, option_map, slice_index, sum}
use Rattle.std.specs.FinMap.{get, insert}
use Rattle.cf_base.specs.Settings.{Profile}
use Rattle.page_model.specs.Arrangement.{IsSound, pages_needed}
use Rattle.page_model.specs.Held.{Held, Placed, objects}
use Rattle.page_model.specs.Paging.{page_of}
use Rattle.page_model.specs.Steps.{IsFreePlace, Moves, Request, without, zeros_at}
use Rattle.quota_model.specs.Parts.{key_of, number_in_task, objects_of_task, task_of}
use Rattle.quota_model.specs.Refusals.{task_paging}

-- The rules for the objects of all tasks. There are sixteen tasks, and each object's number in its task is below the number of proxies. The objects of each
-- task are a sound arrangement with bound 1: at most one page of each of its classes is partly full. No page has objects of two tasks.
pub record IsShared (s : Profile) (m : Held) : Type 0 where
  pub tasks : (key : ℕ) (x : Placed) → get m key ≡ Some x → task_of key < 16
  pub numbers : (key : ℕ) (x : Placed) → get m key ≡ Some x → number_in_task key < s.proxies
  pub sound : (task : ℕ) → IsSound (task_paging s) (objects_of_task m task)
  pub apart : (key : ℕ) (x : Placed) (other : ℕ) (y : Placed) → get m key ≡ Some x → get m other ≡ Some y
      → page_of (task_paging s) x.place ≡ page_of (task_paging s) y.place → task_of key ≡ task_of other

-- The quotas of the sixteen tasks, in pages, are valid: their sum is at most the region's pages, and no task needs more pages than its quota.
pub record AreQuotas (s : Profile) (quotas : List ℕ) (m : Held) : Type 0 where
  pub many : length quotas ≡ 16
  pub all : sum quotas ≤ s.pages
  pub enough : (task : ℕ) → pages_needed (task_paging s) (objects (objects_of_task m task)) ≤ slice_index quotas task

-- A malloc of a task adds the object `asked`, all zeros, under a number that the task wasn't using. Its slot is one that the task's own arrangement lets it
-- use, on a page that no other task uses.
pub record PlacesForTask (s : Profile) (old : Held) (task : ℕ) (asked : Request) (new : Held) : Type 0 where
  pub place : ℕ
  pub in_range : asked.number < s.proxies
  pub unused : get (objects_of_task old task) asked.number ≡ None
  pub free : IsFreePlace (task_paging s) (objects_of_task old task) asked.length place
  pub own : (key : ℕ) (y : Placed) → get old key ≡ Some y → page_of (task_paging s) y.place ≡ page_of (task_paging s) place → task_of key ≡ task
  pub placed : new ≡ insert old (key_of task asked.number) (zeros_at place asked.length)

-- A free of a task removes its object h. If the task would then have two partly full pages of the class of h, another object of the task, number `moved`,
-- moves to the freed slot.
pub record RemovesForTask (s : Profile) (old : Held) (task h : ℕ) (moved : Option ℕ) (new : Held) : Type 0 where
  pub freed : Placed
  pub found : get (objects_of_task old task) h ≡ Some freed
  pub moves : Moves (task_paging s) (objects_of_task old task) freed moved
  pub left : new ≡ without old (key_of task h) freed.place (option_map (key_of task) moved)
