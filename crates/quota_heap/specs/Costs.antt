-- The exact steps of each call of a task, from the state s before it and the result; and the most of a malloc, a free, a read and a write. The
-- steps depend on no other task's objects. Each comment lists what the steps pay for.
use Rattle.std.specs.Prelude.{ℕ, ◌+◌, ◌%◌, Option, Some, None, Result, Ok, Err, if◌then◌else◌, length, nat_eq}
use Rattle.std.specs.FinMap.{get}
use Rattle.cf_base.specs.declared.results.AccessFault.{AccessFault}
use Rattle.cf_base.specs.declared.results.AccessFault.TheVariants.{Unknown, Range}
use Rattle.cf_base.specs.declared.results.Freed.{Freed}
use Rattle.cf_base.specs.declared.results.Handle.{Handle}
use Rattle.cf_base.specs.declared.results.NotLive.{NotLive}
use Rattle.cf_base.specs.declared.results.Refusal.{Refusal}
use Rattle.cf_model.specs.Costs.{words_touched}
use Rattle.page_model.specs.Arrangement.{class_at, live}
use Rattle.page_model.specs.Held.{Placed}
use Rattle.page_model.specs.Image.{slot_for}
use Rattle.page_model.specs.Order.{fill_steps, new_page_steps, open_steps, steps_to_drop}
use Rattle.page_model.specs.Paging.{class_for, page_of, slots_of}
use Rattle.quota_model.specs.Refusals.{task_paging}
use Rattle.quota_heap.specs.State.{QuotaState, held_by, objects_by}

-- how many objects of class c are on the task's partly full page of the class; 0 if it has none. As the bound is 1, the other pages of the class are full.
abbrev pub on_partly_full : QuotaState → ℕ → ℕ → ℕ
on_partly_full s task c = live (task_paging s.profile) (objects_by s task) c % slots_of (task_paging s.profile) c

-- taking a slot of a class whose pages have n slots, if `used` objects are on its partly full page; on a free page if there is none
abbrev pub taking_steps : ℕ → ℕ → ℕ
taking_steps used n = if nat_eq used 0 then new_page_steps else open_steps used n

-- a malloc of `bytes` bytes: finding the class, taking a slot, binding a proxy (2), and writing the header; if refused, only finding the class
abbrev pub task_malloc_cost : QuotaState → ℕ → ℕ → Result Handle Refusal → ℕ
task_malloc_cost s task bytes (Ok h) = 4 + taking_steps (on_partly_full s task (class_for (task_paging s.profile) bytes))
    (slots_of (task_paging s.profile) (class_for (task_paging s.profile) bytes))
task_malloc_cost s task bytes (Err e) = 1

-- freeing the slot of the object x, without the steps for its words; if an object moves in instead, finding it and freeing its slot, reading its header and
-- setting its proxy
abbrev pub task_leaving_cost : QuotaState → ℕ → Placed → Option Handle → ℕ
task_leaving_cost s task x None = steps_to_drop (task_paging s.profile) (held_by s task) (class_at (task_paging s.profile) x) (page_of (task_paging s.profile) x.place)
task_leaving_cost s task x (Some y) = 2 + fill_steps (on_partly_full s task (class_at (task_paging s.profile) x))

-- a free of object h: reading its proxy and header, finding its class, testing whether an object must move, releasing the proxy (2), the words of the slot, and
-- leaving it; if refused, only the proxy
abbrev pub task_free_cost : QuotaState → ℕ → ℕ → Result Freed NotLive → ℕ
task_free_cost s task h (Ok freed) = elim (get (held_by s task) h) [
  | None ↦ 0
  | Some x ↦ 6 + slot_for (task_paging s.profile) (length x.bytes) + task_leaving_cost s task x freed.moved
]
task_free_cost s task h (Err e) = 1

-- a refused read or write: the proxy and, if the handle is live, the header
abbrev pub task_fault_steps : AccessFault → ℕ
task_fault_steps Unknown = 1
task_fault_steps Range = 2

-- the most steps of a read or a write of `count` bytes from byte `from` on, taken unless it is refused: the proxy, the header, and each word that holds
-- one of the bytes
abbrev pub most_of_access : ℕ → ℕ → ℕ
most_of_access from count = 2 + words_touched from count

-- a read or a write with this result, of `count` bytes from byte `from` on
abbrev pub task_access_steps : Result Unit AccessFault → ℕ → ℕ → ℕ
task_access_steps (Ok done) from count = most_of_access from count
task_access_steps (Err e) from count = task_fault_steps e

-- a call for the length of an object: the proxy and, if the handle is live, the header
abbrev pub task_length_steps : Option ℕ → ℕ
task_length_steps None = 1
task_length_steps (Some bytes) = 2

-- a peek: 1 step for the word, 0 past the region's end
abbrev pub task_peek_steps : Option ℕ → ℕ
task_peek_steps None = 0
task_peek_steps (Some word) = 1

-- the most steps of a malloc: those of one whose object fills up a partly full page
abbrev pub most_of_malloc : ℕ
most_of_malloc = 17

-- the most steps of a free of an object in a slot of this many words: those of one that moves an object and empties the page from which that moves
abbrev pub most_of_free : ℕ → ℕ
most_of_free slot_words = 20 + slot_words

-- the most steps of a free with this result
abbrev pub task_free_steps : Result Freed NotLive → ℕ
task_free_steps (Ok freed) = most_of_free freed.slot_words
task_free_steps (Err e) = 1
