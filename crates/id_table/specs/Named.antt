-- What the calls of a `Namer` do, when a named object has so many bytes, and when a manager lacks a proxy or pages. In each record `old` is the state of the
-- run before the call, `new` after it.
use Rattle.std.specs.Prelude.{◌≡◌, ℕ, Bool, ◌⊎◌, ◌<◌, ◌≤◌, List, length, Some, Result, Ok, Err, is_ok}
use Rattle.std.specs.FinMap.{get, insert, len, remove}
use Rattle.cf_base.specs.declared.results.Freed.{Freed}
use Rattle.cf_base.specs.declared.results.Handle.{Handle}
use Rattle.cf_base.specs.declared.results.Refusal.{Refusal}
use Rattle.cf_model.specs.Costs.{free_bound}
use Rattle.cf_model.specs.State.{HeapState, paging_in}
use Rattle.cf_model.specs.Steps.{FreesObject, IsMallocStep, WritesBytes}
use Rattle.cf_model.specs.declared.manager.TheConstants.{MALLOC_BOUND}
use Rattle.page_model.specs.Arrangement.{pages_needed_with}
use Rattle.page_model.specs.Held.{Placed, objects}
use Rattle.id_table.specs.Ids.{Ids}
use Rattle.id_table.specs.Sessions.{RunState, counted}

-- in heap `s` all proxies are in use, or its objects and one more of `bytes` bytes need more pages than the region has
abbrev pub LacksProxyOrPages : HeapState → ℕ → Type 0
LacksProxyOrPages s bytes = (len s.held ≡ s.profile.proxies) ⊎ (s.profile.pages < pages_needed_with (paging_in s) (objects s.held) bytes)

-- the ids after a malloc for `id` with this result: `id` names the new handle, or the malloc was refused, for whatever cause, and no id changes
abbrev pub ids_given : {E : Type 0} → Ids → ℕ → Result Handle E → Ids
ids_given ids id (Ok h) = insert ids id h.0
ids_given ids id (Err e) = ids

-- a malloc of `bytes` bytes for `id`, which isn't live: `answer` is the manager's result, and `made` is whether it is `Ok`
pub record MakesNamed (old : RunState) (id bytes : ℕ) (made : Bool) (new : RunState) : Type 0 where
  pub answer : Result Handle Refusal
  pub step : IsMallocStep old.heap bytes answer new.heap
  pub session : new.session ≡ record old.session { ids = ids_given old.session.ids id answer; bound = MALLOC_BOUND }
  pub made_if : made ≡ is_ok answer

-- the id is live, and its object has at least `count` bytes; `number` is that of its handle
pub record HasBytes (s : RunState) (id count : ℕ) : Type 0 where
  pub number : ℕ
  pub named : get s.session.ids id ≡ Some number
  pub object : Placed
  pub found : get s.heap.held number ≡ Some object
  pub long : count ≤ length object.bytes

-- a write of `bytes` into the object of `id`, from its byte `at` on; `number` is that of its handle
pub record WritesNamed (old : RunState) (id at : ℕ) (bytes : List ℕ) (new : RunState) : Type 0 where
  pub number : ℕ
  pub named : get old.session.ids id ≡ Some number
  pub step : WritesBytes old.heap (record { number = number; from = at }) bytes new.heap
  pub session : new.session ≡ old.session

-- a free of the object of `id`; `number` is that of its handle, and `freed` the manager's result: the words of the slot, and the object that moved, if one did
pub record FreesNamed (old : RunState) (id : ℕ) (new : RunState) : Type 0 where
  pub number : ℕ
  pub named : get old.session.ids id ≡ Some number
  pub freed : Freed
  pub step : FreesObject old.heap number freed new.heap
  pub session : new.session ≡ counted (record old.session { ids = remove old.session.ids id; bound = free_bound (Ok freed) }) freed.moved freed.slot_words
