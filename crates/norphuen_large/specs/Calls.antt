-- What each call from C does to a `Held`, an open heap of long objects with a step count and handles: `old` is the `Held` before the call, `new` after it.
-- `before` and `after` are the caller's number, structure or buffer that the call writes to, and `code` is what the call returns. `answer` is the result of
-- the call of `LargeHeap` that does the work; its steps, counted from 0, are `new.steps`.
use Rattle.std.specs.Prelude.{◌≡◌, ℕ, ℤ, pos, true, List, Option, Result, length, option_map}
use Rattle.std.specs.FinMap.{empty, get}
use Rattle.cf_base.specs.Settings.{Profile}
use Rattle.cf_base.specs.declared.results.AccessFault.{AccessFault}
use Rattle.cf_base.specs.declared.results.Handle.{Handle}
use Rattle.cf_base.specs.declared.results.NotLive.{NotLive}
use Rattle.cf_base.specs.declared.results.Refusal.{Refusal}
use Rattle.cf_base.specs.declared.kind.Kind.TheVariants.{Moving}
use Rattle.cf_model.specs.Answers.{figures_in, totals_in}
use Rattle.cf_model.specs.Steps.{IsOpeningOrder, IsOpeningWords, Position, ordered_heap}
use Rattle.large_objects.specs.Large.{KeepsParts, LargeState}
use Rattle.large_objects.specs.LargeCosts.{large_access_steps, large_free_steps, large_malloc_steps, moving_costs}
use Rattle.large_objects.specs.LargeSteps.{IsLargeFree, IsLargeMalloc, IsLargeRead, IsLargeWrite, StaysKept}
use Rattle.step_ledger.specs.Counting.{RoseAtMost}
use Rattle.c_base.specs.Codes.{access_code, free_code, malloc_code}
use Rattle.c_base.specs.HandleRules.{AreFirstHandles}
use Rattle.c_base.specs.Handles.{number_in, raised_by}
use Rattle.c_base.specs.Shown.{figures_shown, found_code, found_number, malloc_number, totals_shown}
use Rattle.c_base.specs.declared.results.NphClass.{NphClass}
use Rattle.c_base.specs.declared.results.NphHeapTotals.{NphHeapTotals}
use Rattle.norphuen_large.specs.HeldState.{LargeHeldState}

-- `new` is a heap that was just opened with the settings p: no object is live, all words are 0, the step count is 0, and the handles are larger than `last`, or
-- begin at 0 if too few are larger
pub record IsFreshLargeHeap (p : Profile) (last : ℕ) (new : LargeHeldState) : Type 0 where
  pub open_now : new.heap.is_open ≡ true
  pub none : new.heap.objects ≡ empty
  pub words : IsOpeningWords Moving p new.heap.inner.words
  pub order : IsOpeningOrder Moving p new.heap.inner.order
  pub whole : new.heap.inner ≡ ordered_heap Moving p new.heap.inner.words new.heap.inner.order
  pub rules : KeepsParts new.heap
  pub steps : new.steps ≡ 0
  pub handles : AreFirstHandles p.proxies last new.handles

-- a malloc of `bytes` bytes
pub record IsLargeMallocCall (old : LargeHeldState) (bytes before : ℕ) (code : ℤ) (after : ℕ) (new : LargeHeldState) : Type 0 where
  pub answer : Result Handle Refusal
  pub by_code : code ≡ malloc_code answer
  pub by_number : after ≡ malloc_number old.handles before answer
  pub step : IsLargeMalloc old.heap bytes answer new.heap
  pub kept : StaysKept old.heap new.heap
  pub bound : RoseAtMost 0 new.steps (large_malloc_steps moving_costs old.heap bytes answer)
  pub same : new.handles ≡ old.handles

-- a free of the object that `handle` names; if the free succeeds, the handle names no object any more
pub record IsLargeFreeCall (old : LargeHeldState) (handle : ℕ) (code : ℤ) (new : LargeHeldState) : Type 0 where
  pub answer : Result (Unit {0}) NotLive
  pub by_code : code ≡ free_code answer
  pub step : IsLargeFree old.heap (number_in old.handles handle) answer new.heap
  pub kept : StaysKept old.heap new.heap
  pub bound : RoseAtMost 0 new.steps (large_free_steps moving_costs old.heap (number_in old.handles handle))
  pub raises : new.handles ≡ raised_by old.handles handle answer

-- byte `from` of the object that `handle` names
abbrev pub position_in : LargeHeldState → ℕ → ℕ → Position
position_in h handle from = record { number = number_in h.handles handle; from = from }

-- a write of `bytes` into the object that `handle` names, from its byte `from` on
pub record IsLargeWriteCall (old : LargeHeldState) (handle from : ℕ) (bytes : List ℕ) (code : ℤ) (new : LargeHeldState) : Type 0 where
  pub answer : Result (Unit {0}) AccessFault
  pub by_code : code ≡ access_code answer
  pub step : IsLargeWrite old.heap (position_in old handle from) bytes answer new.heap
  pub kept : StaysKept old.heap new.heap
  pub exact : new.steps ≡ large_access_steps moving_costs old.heap (position_in old handle from) (length bytes) answer
  pub same : new.handles ≡ old.handles

-- a read of the object that `handle` names, from its byte `from` on, into the caller's buffer; the heap is unchanged
pub record IsLargeReadCall (old : LargeHeldState) (handle from : ℕ) (before : List ℕ) (code : ℤ) (after : List ℕ) (new : LargeHeldState) : Type 0 where
  pub answer : Result (Unit {0}) AccessFault
  pub by_code : code ≡ access_code answer
  pub read : IsLargeRead old.heap (position_in old handle from) before answer after
  pub exact : new.steps ≡ large_access_steps moving_costs old.heap (position_in old handle from) (length before) answer
  pub kept : new.heap ≡ old.heap
  pub same : new.handles ≡ old.handles

-- the length of the object with this number; none if it is not live
abbrev pub large_length_in : LargeState → ℕ → Option ℕ
large_length_in s number = option_map length (get s.objects number)

-- a call for the length of the object that `handle` names; the `Held` is unchanged
pub record IsLargeLengthCall (old : LargeHeldState) (handle before : ℕ) (code : ℤ) (after : ℕ) (new : LargeHeldState) : Type 0 where
  pub by_code : code ≡ found_code (large_length_in old.heap (number_in old.handles handle))
  pub by_length : after ≡ found_number (large_length_in old.heap (number_in old.handles handle)) before
  pub kept : new ≡ old

-- a call for the figures of a class of the inner manager, a moving heap; the `Held` is unchanged
pub record IsLargeFiguresCall (old : LargeHeldState) (class : ℕ) (before : NphClass) (code : ℤ) (after : NphClass) (new : LargeHeldState) : Type 0 where
  pub by_code : code ≡ found_code (figures_in old.heap.inner class)
  pub by_figures : after ≡ figures_shown (figures_in old.heap.inner class) before
  pub kept : new ≡ old

-- a call for the figures of the whole inner manager, a moving heap; it takes no step, and the heap is unchanged
pub record IsLargeTotalsCall (old : LargeHeldState) (code : ℤ) (after : NphHeapTotals) (new : LargeHeldState) : Type 0 where
  pub by_code : code ≡ pos 0
  pub by_totals : after ≡ totals_shown (totals_in old.heap.inner.kind old.heap.inner)
  pub exact : new.steps ≡ 0
  pub kept : new.heap ≡ old.heap
  pub same : new.handles ≡ old.handles

-- a call of `last_steps`: it writes the steps of the last call that counts them; the state is unchanged, steps included
pub record IsLargeStepsCall (old : LargeHeldState) (code : ℤ) (after : ℕ) (new : LargeHeldState) : Type 0 where
  pub by_code : code ≡ pos 0
  pub by_steps : after ≡ old.steps
  pub kept : new ≡ old
