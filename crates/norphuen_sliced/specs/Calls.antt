-- For `Held`: what each call of the C library does to an open sliced heap with its step count (`old`, `new`) and to the caller's number or buffer (`before`,
-- `after`), and the `code` that it returns. `answer` is the result of the heap's call, whose steps, counted from 0, are `new.steps`.
use Rattle.std.specs.Prelude.{◌≡◌, ℕ, ℤ, pos, ◌*◌, true, replicate, List, Option, Some, None, Result, IsErr, length}
use Rattle.std.specs.FinMap.{empty}
use Rattle.cf_base.specs.Classes.{class_of}
use Rattle.cf_base.specs.Settings.{Profile, at_bound_one}
use Rattle.cf_base.specs.declared.results.AccessFault.{AccessFault}
use Rattle.cf_base.specs.declared.results.Handle.{Handle}
use Rattle.cf_base.specs.declared.kind.Layout.TheVariants.{Words}
use Rattle.page_model.specs.Order.{first_order}
use Rattle.page_model.specs.Paging.{first_bounds, paging_of}
use Rattle.slice_model.specs.Ordered.{HappensInOrder}
use Rattle.slice_model.specs.Runs.{Event, Happens, Free, Malloc, Read, Step, Write}
use Rattle.slice_model.specs.State.{Idle, left_of}
use Rattle.slice_model.specs.declared.refusals.SliceFault.{SliceFault}
use Rattle.slice_model.specs.declared.refusals.SliceRefusal.{SliceRefusal}
use Rattle.sliced_heap.specs.Access.{access_fault, bytes_or_fault, place_in, sliced_length_in}
use Rattle.sliced_heap.specs.Costs.{slice_cost, sliced_access_steps, sliced_free_cost, sliced_length_steps, sliced_malloc_cost}
use Rattle.sliced_heap.specs.Figures.{sliced_figures_in, sliced_totals_in, sliced_words_steps, slot_words_in}
use Rattle.sliced_heap.specs.Room.{IsRoomAnswer, mover}
use Rattle.sliced_heap.specs.Shown.{KeepsSlicedRules, SlicedState, StaysSlicedOpen, plan_in, working_in}
use Rattle.sliced_heap.specs.Steps.{fault_in}
use Rattle.step_ledger.specs.Counting.{RoseAtMost, RoseBy}
use Rattle.c_base.specs.Codes.{access_code}
use Rattle.c_base.specs.HandleRules.{AreFirstHandles}
use Rattle.c_base.specs.Handles.{handle_of, none, number_in, raised_by}
use Rattle.c_base.specs.Shown.{class_code, figures_shown, found_code, found_number, malloc_number, totals_shown}
use Rattle.c_base.specs.declared.results.NphClass.{NphClass}
use Rattle.c_base.specs.declared.results.NphHeapTotals.{NphHeapTotals}
use Rattle.norphuen_sliced.specs.Codes.{slice_free_code, slice_malloc_code}
use Rattle.norphuen_sliced.specs.HeldState.{SlicedHeldState}
use Rattle.norphuen_sliced.specs.Most.{most_access, most_free, most_malloc, most_step}

-- the call with its result (`event`) happens, in the order of the heap, which keeps its rules, its settings and its quantum
pub record IsSlicedCall (old : SlicedState) (event : Event) (new : SlicedState) : Type 0 where
  pub step : Happens (plan_in old) (working_in old) event (working_in new)
  pub ordered : HappensInOrder (plan_in old) (working_in old) event (working_in new) old.order new.order
  pub same : StaysSlicedOpen old new
  pub rules : KeepsSlicedRules new

-- the state of a heap that was just opened with the settings p and this quantum: no object, no job, and all words 0; bound 1, whatever p has
abbrev pub opened_with : Profile → ℕ → SlicedState
opened_with p quantum = record {
  is_open = true;
  profile = at_bound_one p;
  quantum = quantum;
  held = empty;
  job = Idle;
  words = replicate (p.pages * p.page_words) 0;
  order = first_order (paging_of (at_bound_one p) Words (first_bounds (at_bound_one p) Words)) p.proxies;
}

-- a heap that was just opened with the settings p and this quantum; its step count is 0, and its handles are larger than `last` or begin at 0 if too few
-- are larger
pub record IsFreshSlicedHeap (p : Profile) (quantum last : ℕ) (new : SlicedHeldState) : Type 0 where
  pub heap : new.heap ≡ opened_with p quantum
  pub rules : KeepsSlicedRules new.heap
  pub steps : new.steps ≡ 0
  pub handles : AreFirstHandles p.proxies last new.handles

-- a malloc of `bytes` bytes
pub record IsSlicedMallocCall (old : SlicedHeldState) (bytes before : ℕ) (code : ℤ) (after : ℕ) (new : SlicedHeldState) : Type 0 where
  pub answer : Result Handle SliceRefusal
  pub by_code : code ≡ slice_malloc_code answer
  pub by_number : after ≡ malloc_number old.handles before answer
  pub call : IsSlicedCall old.heap (Malloc bytes answer) new.heap
  pub exact : RoseBy 0 new.steps (sliced_malloc_cost (plan_in old.heap) (working_in old.heap).state old.heap.order bytes answer)
  pub bound : RoseAtMost 0 new.steps most_malloc
  pub same : new.handles ≡ old.handles

-- a free of the object that `handle` names, with the first slice of its job; the handle is given up if the free succeeds
pub record IsSlicedFreeCall (old : SlicedHeldState) (handle : ℕ) (code : ℤ) (new : SlicedHeldState) : Type 0 where
  pub answer : Result (Unit {0}) SliceFault
  pub by_code : code ≡ slice_free_code answer
  pub call : IsSlicedCall old.heap (Free (number_in old.handles handle) (fault_in answer)) new.heap
  pub exact : RoseBy 0 new.steps (sliced_free_cost (plan_in old.heap) (working_in old.heap).state old.heap.order (number_in old.handles handle) (fault_in answer))
  pub bound : RoseAtMost 0 new.steps (most_free old.heap.quantum)
  pub raises : new.handles ≡ raised_by old.handles handle answer

-- one slice of the pending job
pub record IsStepCall (old : SlicedHeldState) (code : ℤ) (new : SlicedHeldState) : Type 0 where
  pub by_code : code ≡ pos 0
  pub call : IsSlicedCall old.heap Step new.heap
  pub exact : RoseBy 0 new.steps (slice_cost (plan_in old.heap) (working_in old.heap).state)
  pub bound : RoseAtMost 0 new.steps (most_step old.heap.quantum)
  pub same : new.handles ≡ old.handles

-- a call for the words that the pending job has yet to clear or move; it changes nothing
pub record IsLeftCall (old : SlicedHeldState) (code : ℤ) (after : ℕ) (new : SlicedHeldState) : Type 0 where
  pub by_code : code ≡ pos 0
  pub by_words : after ≡ left_of (plan_in old.heap) (working_in old.heap).state
  pub kept : new ≡ old

-- the handle of the object with this number, as C gets it; `none` if there is no number
abbrev pub handle_shown : List ℕ → Option ℕ → ℕ
handle_shown handles (Some n) = handle_of handles n
handle_shown handles None = none

-- a call for the object that the pending job moves; it changes nothing
pub record IsMovingCall (old : SlicedHeldState) (code : ℤ) (after : ℕ) (new : SlicedHeldState) : Type 0 where
  pub by_code : code ≡ pos 0
  pub by_handle : after ≡ handle_shown old.handles (mover old.heap.job)
  pub kept : new ≡ old

-- a write of `bytes` into the object that `handle` names, from its byte `from` on
pub record IsSlicedWriteCall (old : SlicedHeldState) (handle from : ℕ) (bytes : List ℕ) (code : ℤ) (new : SlicedHeldState) : Type 0 where
  pub answer : Result (Unit {0}) AccessFault
  pub by_code : code ≡ access_code answer
  pub call : IsSlicedCall old.heap (Write (record { number = number_in old.handles handle; from = from }) bytes (access_fault answer)) new.heap
  pub exact : RoseBy 0 new.steps (sliced_access_steps answer from (length bytes))
  pub bound : RoseAtMost 0 new.steps (most_access from (length bytes))
  pub same : new.handles ≡ old.handles

-- a read of the object that `handle` names, from its byte `from` on, into the caller's buffer; the heap is unchanged
pub record IsSlicedReadCall (old : SlicedHeldState) (handle from : ℕ) (before : List ℕ) (code : ℤ) (after : List ℕ) (new : SlicedHeldState) : Type 0 where
  pub answer : Result (Unit {0}) AccessFault
  pub by_code : code ≡ access_code answer
  pub read : Happens (plan_in old.heap) (working_in old.heap)
      (Read (record { number = number_in old.handles handle; from = from }) (length before) (bytes_or_fault answer after)) (working_in old.heap)
  pub refused : IsErr answer → after ≡ before
  pub kept : new.heap ≡ old.heap
  pub exact : RoseBy 0 new.steps (sliced_access_steps answer from (length before))
  pub bound : RoseAtMost 0 new.steps (most_access from (length before))
  pub same : new.handles ≡ old.handles

-- a call for the length of the object that `handle` names; the heap is unchanged
pub record IsSlicedLengthCall (old : SlicedHeldState) (handle before : ℕ) (code : ℤ) (after : ℕ) (new : SlicedHeldState) : Type 0 where
  pub by_code : code ≡ found_code (sliced_length_in old.heap.held (number_in old.handles handle))
  pub by_length : after ≡ found_number (sliced_length_in old.heap.held (number_in old.handles handle)) before
  pub kept : new.heap ≡ old.heap
  pub same : new.handles ≡ old.handles
  pub exact : RoseBy 0 new.steps (sliced_length_steps (sliced_length_in old.heap.held (number_in old.handles handle)))

-- a call of `has_room`: it returns the code that a malloc of `bytes` bytes would return now; the heap is unchanged
pub record IsSlicedRoomCall (old : SlicedHeldState) (bytes : ℕ) (code : ℤ) (new : SlicedHeldState) : Type 0 where
  pub answer : Result (Unit {0}) SliceRefusal
  pub by_code : code ≡ slice_malloc_code answer
  pub room : IsRoomAnswer (plan_in old.heap) (working_in old.heap).state bytes answer
  pub kept : new.heap ≡ old.heap
  pub same : new.handles ≡ old.handles
  pub exact : RoseBy 0 new.steps 1

-- a call for the words of the slot of the object that `handle` names; the heap is unchanged
pub record IsSlicedSlotWordsCall (old : SlicedHeldState) (handle before : ℕ) (code : ℤ) (after : ℕ) (new : SlicedHeldState) : Type 0 where
  pub by_code : code ≡ found_code (slot_words_in (plan_in old.heap) old.heap.held (number_in old.handles handle))
  pub by_words : after ≡ found_number (slot_words_in (plan_in old.heap) old.heap.held (number_in old.handles handle)) before
  pub kept : new.heap ≡ old.heap
  pub same : new.handles ≡ old.handles
  pub exact : RoseBy 0 new.steps (sliced_words_steps (slot_words_in (plan_in old.heap) old.heap.held (number_in old.handles handle)))

-- a call for the address of the object that `handle` names, in words from the start of the region; the heap is unchanged
pub record IsSlicedPlaceCall (old : SlicedHeldState) (handle before : ℕ) (code : ℤ) (after : ℕ) (new : SlicedHeldState) : Type 0 where
  pub by_code : code ≡ found_code (place_in old.heap.held (number_in old.handles handle))
  pub by_place : after ≡ found_number (place_in old.heap.held (number_in old.handles handle)) before
  pub kept : new.heap ≡ old.heap
  pub same : new.handles ≡ old.handles
  pub exact : RoseBy 0 new.steps 1

-- a call for the class of an object of `bytes` bytes; the heap is unchanged
pub record IsSlicedClassCall (old : SlicedHeldState) (bytes before : ℕ) (code : ℤ) (after : ℕ) (new : SlicedHeldState) : Type 0 where
  pub by_code : code ≡ class_code (class_of (plan_in old.heap).paging.sizes bytes)
  pub by_class : after ≡ found_number (class_of (plan_in old.heap).paging.sizes bytes) before
  pub kept : new.heap ≡ old.heap
  pub same : new.handles ≡ old.handles
  pub exact : RoseBy 0 new.steps 1

-- a call for the figures of a class; it changes nothing
pub record IsSlicedFiguresCall (old : SlicedHeldState) (class : ℕ) (before : NphClass) (code : ℤ) (after : NphClass) (new : SlicedHeldState) : Type 0 where
  pub by_code : code ≡ found_code (sliced_figures_in (plan_in old.heap) (working_in old.heap).state class)
  pub by_figures : after ≡ figures_shown (sliced_figures_in (plan_in old.heap) (working_in old.heap).state class) before
  pub kept : new ≡ old

-- a call for the figures of the whole heap; it changes nothing
pub record IsSlicedTotalsCall (old : SlicedHeldState) (code : ℤ) (after : NphHeapTotals) (new : SlicedHeldState) : Type 0 where
  pub by_code : code ≡ pos 0
  pub by_totals : after ≡ totals_shown (sliced_totals_in (plan_in old.heap) (working_in old.heap).state)
  pub kept : new ≡ old

-- a call of `last_steps`: it writes the steps of the last call that counts them; the state is unchanged, steps included
pub record IsSlicedStepsCall (old : SlicedHeldState) (code : ℤ) (after : ℕ) (new : SlicedHeldState) : Type 0 where
  pub by_code : code ≡ pos 0
  pub by_steps : after ≡ old.steps
  pub kept : new ≡ old
