-- For `Held`: the heap just opened (`IsFreshHeap`), and what a call of a C library (others are in `Bound`, `Slots` and `Walk`) does to an open heap with its
-- step count (`old`, `new`) and to the caller's number, structure or buffer (`before`, `after`), and the `code` that it returns. `answer` is the result of the
-- manager's call, whose steps, counted from 0, are `new.steps`, and `most` has the manager's own step bounds.
use Rattle.std.specs.Prelude.{◌≡◌, ℕ, ℤ, pos, List, Option, Some, Result, Ok, Err, length}
use Rattle.cf_base.specs.Settings.{Profile}
use Rattle.cf_base.specs.declared.results.Handle.{Handle}
use Rattle.cf_base.specs.declared.results.Freed.{Freed}
use Rattle.cf_base.specs.declared.results.NotLive.{NotLive}
use Rattle.cf_base.specs.declared.results.Refusal.{Refusal}
use Rattle.cf_base.specs.declared.results.AccessFault.{AccessFault}
use Rattle.cf_base.specs.declared.results.Resized.{Resized}
use Rattle.cf_base.specs.declared.results.ResizeFault.{ResizeFault}
use Rattle.cf_base.specs.declared.kind.Kind.{Kind}
use Rattle.cf_model.specs.Answers.{figures_in, place_of, totals_in}
use Rattle.cf_model.specs.Bounds.{Bounds, ByOwn}
use Rattle.cf_model.specs.Costs.{RoseByCost, length_steps}
use Rattle.cf_model.specs.Ordered.{IsOrderedFree, IsOrderedMalloc, IsOrderedResize}
use Rattle.cf_model.specs.Room.{IsHasRoomAnswer, length_of}
use Rattle.cf_model.specs.Rules.{KeepsRules}
use Rattle.cf_model.specs.Steps.{IsFreeStep, IsMallocStep, IsOpeningWords, IsReadAnswer, IsResizeStep, IsWriteStep, opening_order, ordered_heap}
use Rattle.step_ledger.specs.Counting.{RoseAtMost, RoseBy}
use Rattle.c_base.specs.Codes.{access_code, free_code, malloc_code, resize_code}
use Rattle.c_base.specs.HandleRules.{AreFirstHandles}
use Rattle.c_base.specs.Handles.{moved_handle, number_in, raised_by}
use Rattle.c_base.specs.Shown.{figures_shown, found_code, found_number, freed_shown, malloc_number, totals_shown}
use Rattle.held_heap.specs.Counts.{free_counts, free_left, malloc_counts, opening_counts, resize_counts}
use Rattle.held_heap.specs.HeldState.{HeldState}
use Rattle.c_base.specs.declared.results.NphClass.{NphClass}
use Rattle.c_base.specs.declared.results.NphCounted.{NphCounted}
use Rattle.c_base.specs.declared.results.NphFreed.{NphFreed}
use Rattle.c_base.specs.declared.results.NphResized.{NphResized}
use Rattle.c_base.specs.declared.results.NphHeapTotals.{NphHeapTotals}

-- `new` is a heap that was just opened with the settings p: it has no objects, its pages, numbers and blocks are in the opening order, its count of steps is 0, its handles
-- are larger than `last` or begin at 0 if too few are larger (`AreFirstHandles`), and its counts are those of the opening
pub record IsFreshHeap (kind : Kind) (p : Profile) (last : ℕ) (new : HeldState) : Type 0 where
  pub words : IsOpeningWords kind p new.heap.words
  pub whole : new.heap ≡ ordered_heap kind p new.heap.words (Some (opening_order kind p))
  pub rules : KeepsRules new.heap
  pub steps : new.steps ≡ 0
  pub handles : AreFirstHandles p.proxies last new.handles
  pub counts : new.counts ≡ opening_counts (free_left new.heap)

-- a malloc of `bytes` bytes; the steps of the call are the cost that the new heap records
pub record IsMallocCall (most : Option Bounds) (old : HeldState) (bytes before : ℕ) (code : ℤ) (after : ℕ) (new : HeldState) : Type 0 where
  pub answer : Result Handle Refusal
  pub by_code : code ≡ malloc_code answer
  pub by_number : after ≡ malloc_number old.handles before answer
  pub step : IsMallocStep old.heap bytes answer new.heap
  pub ordered : IsOrderedMalloc old.heap bytes answer new.heap
  pub rules : KeepsRules new.heap
  pub bound : ByOwn most (λ b. RoseAtMost 0 new.steps (b.malloc answer))
  pub cost : new.steps ≡ new.heap.cost
  pub same : new.handles ≡ old.handles
  pub counts : new.counts ≡ malloc_counts old.counts answer new.heap

-- a free of the object that `handle` names; if it succeeds, the number of the object gets its next handle; the steps of the call are the cost that the new heap records
pub record IsFreeCall (most : Option Bounds) (old : HeldState) (handle : ℕ) (before : NphFreed) (code : ℤ) (after : NphFreed) (new : HeldState) : Type 0 where
  pub answer : Result Freed NotLive
  pub by_code : code ≡ free_code answer
  pub by_freed : after ≡ freed_shown new.handles before answer
  pub step : IsFreeStep old.heap (number_in old.handles handle) answer new.heap
  pub ordered : IsOrderedFree old.heap (number_in old.handles handle) answer new.heap
  pub rules : KeepsRules new.heap
  pub bound : ByOwn most (λ b. RoseAtMost 0 new.steps (b.free answer))
  pub cost : new.steps ≡ new.heap.cost
  pub raises : new.handles ≡ raised_by old.handles handle answer
  pub counts : new.counts ≡ free_counts old.counts answer

-- the caller's structure after a resize with this result: the slots and what moved, or after a refusal the structure before the call
abbrev pub resized_shown : List ℕ → NphResized → Result Resized ResizeFault → NphResized
resized_shown handles before (Ok done) =
    record { old_slot_words = done.old_slot_words; slot_words = done.slot_words; moved = moved_handle handles done.moved }
resized_shown handles before (Err e) = before

-- a resize of the object that `handle` names to `bytes` bytes; with pages the steps of the call are the cost that the new heap records
pub record IsResizeCall (most : Option Bounds) (old : HeldState) (handle bytes : ℕ) (before : NphResized) (code : ℤ) (after : NphResized) (new : HeldState) : Type 0 where
  pub answer : Result Resized ResizeFault
  pub by_code : code ≡ resize_code answer
  pub by_resized : after ≡ resized_shown old.handles before answer
  pub step : IsResizeStep old.heap (record { number = number_in old.handles handle; length = bytes }) answer new.heap
  pub ordered : IsOrderedResize old.heap (record { number = number_in old.handles handle; length = bytes }) answer new.heap
  pub rules : KeepsRules new.heap
  pub bound : ByOwn most (λ b. RoseAtMost 0 new.steps (b.resize bytes answer))
  pub cost : RoseByCost old.heap.kind 0 new.steps new.heap.cost
  pub same : new.handles ≡ old.handles
  pub counts : new.counts ≡ resize_counts old.counts answer new.heap

-- a write of `bytes` into the object that `handle` names, from its byte `from` on
pub record IsWriteCall (most : Option Bounds) (old : HeldState) (handle from : ℕ) (bytes : List ℕ) (code : ℤ) (new : HeldState) : Type 0 where
  pub answer : Result (Unit {0}) AccessFault
  pub by_code : code ≡ access_code answer
  pub step : IsWriteStep old.heap (record { number = number_in old.handles handle; from = from }) bytes answer new.heap
  pub rules : KeepsRules new.heap
  pub exact : ByOwn most (λ b. RoseBy 0 new.steps (b.access from (length bytes) answer))
  pub same : new.handles ≡ old.handles
  pub counts : new.counts ≡ old.counts

-- a read of the object that `handle` names, from its byte `from` on, into the caller's buffer; the heap is unchanged
pub record IsReadCall (most : Option Bounds) (old : HeldState) (handle from : ℕ) (before : List ℕ) (code : ℤ) (after : List ℕ) (new : HeldState) : Type 0 where
  pub answer : Result (Unit {0}) AccessFault
  pub by_code : code ≡ access_code answer
  pub read : IsReadAnswer old.heap (record { number = number_in old.handles handle; from = from }) before answer after
  pub rules : KeepsRules old.heap
  pub exact : ByOwn most (λ b. RoseBy 0 new.steps (b.access from (length before) answer))
  pub kept : new.heap ≡ old.heap
  pub same : new.handles ≡ old.handles
  pub counts : new.counts ≡ old.counts

-- a call for the length of the object that `handle` names in a heap of the kind `of_kind`; the heap is unchanged
pub record IsLengthCall (of_kind : Kind) (old : HeldState) (handle before : ℕ) (code : ℤ) (after : ℕ) (new : HeldState) : Type 0 where
  pub by_code : code ≡ found_code (length_of old.heap (number_in old.handles handle))
  pub by_kind : old.heap.kind ≡ of_kind
  pub by_length : after ≡ found_number (length_of old.heap (number_in old.handles handle)) before
  pub kept : new.heap ≡ old.heap
  pub same : new.handles ≡ old.handles
  pub counts : new.counts ≡ old.counts
  pub exact : RoseBy 0 new.steps (length_steps old.heap.kind (length_of old.heap (number_in old.handles handle)))

-- a call for the address, in words, of the object that `handle` names; the heap is unchanged
pub record IsPlaceCall (old : HeldState) (handle before : ℕ) (code : ℤ) (after : ℕ) (new : HeldState) : Type 0 where
  pub by_code : code ≡ found_code (place_of old.heap (number_in old.handles handle))
  pub by_place : after ≡ found_number (place_of old.heap (number_in old.handles handle)) before
  pub kept : new.heap ≡ old.heap
  pub same : new.handles ≡ old.handles
  pub counts : new.counts ≡ old.counts
  pub exact : RoseBy 0 new.steps 1

-- the code of `has_room` with this result: 0, or the code of a malloc with this refusal
abbrev pub room_code : Result (Unit {0}) Refusal → ℤ
room_code (Ok u) = pos 0
room_code (Err e) = malloc_code (Err e)

-- a call that asks whether a malloc of this many bytes would be refused; the heap is unchanged
pub record IsRoomCall (most : Option Bounds) (old : HeldState) (bytes : ℕ) (code : ℤ) (new : HeldState) : Type 0 where
  pub answer : Result (Unit {0}) Refusal
  pub by_code : code ≡ room_code answer
  pub room : IsHasRoomAnswer old.heap bytes answer
  pub kept : new.heap ≡ old.heap
  pub same : new.handles ≡ old.handles
  pub counts : new.counts ≡ old.counts
  pub bound : ByOwn most (λ b. RoseAtMost 0 new.steps (b.room answer))
  pub exact : ByOwn most (λ b. RoseBy 0 new.steps (b.room_exact old.heap bytes answer))

-- a call for the figures of a class; the state is unchanged, steps included
pub record IsFiguresCall (old : HeldState) (class : ℕ) (before : NphClass) (code : ℤ) (after : NphClass) (new : HeldState) : Type 0 where
  pub by_code : code ≡ found_code (figures_in old.heap class)
  pub by_figures : after ≡ figures_shown (figures_in old.heap class) before
  pub kept : new ≡ old

-- a call for the figures of the whole heap; the heap is unchanged
pub record IsTotalsCall (most : Option Bounds) (old : HeldState) (code : ℤ) (after : NphHeapTotals) (new : HeldState) : Type 0 where
  pub by_code : code ≡ pos 0
  pub by_totals : after ≡ totals_shown (totals_in old.heap.kind old.heap)
  pub kept : new.heap ≡ old.heap
  pub same : new.handles ≡ old.handles
  pub counts : new.counts ≡ old.counts
  pub bound : ByOwn most (λ b. RoseAtMost 0 new.steps (b.totals (totals_in old.heap.kind old.heap)))
  pub exact : ByOwn most (λ b. RoseBy 0 new.steps (b.totals_exact old.heap))

-- a call of `last_steps`: it writes the steps of the last call that counts them; the state is unchanged, steps included
pub record IsStepsCall (old : HeldState) (code : ℤ) (after : ℕ) (new : HeldState) : Type 0 where
  pub by_code : code ≡ pos 0
  pub by_steps : after ≡ old.steps
  pub kept : new ≡ old

-- a call for the counts; the state is unchanged, steps included
pub record IsCountsCall (old : HeldState) (code : ℤ) (after : NphCounted) (new : HeldState) : Type 0 where
  pub by_code : code ≡ pos 0
  pub by_counts : after ≡ old.counts
  pub kept : new ≡ old
