-- For `laws`: a malloc's handle is new; a handle that names no object is refused; a read gives the bytes of the object.
use Rattle.std.proofs.Common.{◌≡◌, ℕ, ℤ, pos, ◌+◌, ◌<◌, ◌≤◌, List, length, Some, None, refl, sym, ◌∙◌, ap, arith}
use Rattle.std.specs.Prelude.{Result, Ok, Err, IsErr, option_map, slice_index}
use Rattle.std.specs.FinMap.{get}
use Rattle.cf_base.specs.declared.results.AccessFault.{AccessFault}
use Rattle.cf_base.specs.declared.results.AccessFault.TheVariants as access
use Rattle.cf_base.specs.declared.results.Handle.{Handle}
use Rattle.page_model.specs.Held.{Placed, objects}
use Rattle.page_model.proofs.CallerLemmas.{bytes_held}
use Rattle.slice_model.specs.Runs.{Happens, Position, Free, Malloc, Read, Write}
use Rattle.slice_model.specs.declared.refusals.SliceFault.{SliceFault}
use Rattle.slice_model.specs.declared.refusals.SliceFault.TheVariants as fault
use Rattle.slice_model.specs.declared.refusals.SliceRefusal.{SliceRefusal}
use Rattle.slice_model.specs.declared.refusals.SliceRefusal.TheVariants as refusal
use Rattle.slice_model.proofs.CallerLemmas.{byte_there}
use Rattle.sliced_heap.specs.Access.{access_fault, bytes_or_fault}
use Rattle.sliced_heap.specs.Shown.{plan_in, working_in}
use Rattle.sliced_heap.specs.Steps.{fault_in}
use Rattle.cf_base.proofs.MapValues.{get-map_values}
use Rattle.c_base.specs.Codes.{access_code}
use Rattle.c_base.specs.Handles.{none, raised_by}
use Rattle.c_base.specs.Shown.{malloc_number}
use Rattle.c_base.proofs.CallerLemmas.{new_handle, no_number, none_there}
use Rattle.norphuen_sliced.specs.Codes.{slice_free_code, slice_malloc_code}
use Rattle.norphuen_sliced.specs.HandleRules.{IsNewSlicedHandle, KeepsSlicedHandles}
use Rattle.norphuen_sliced.specs.HeldState.{SlicedHeldState}

-- ---- the handle of a malloc is new

pub is_new : (old new : SlicedHeldState) (bytes before after : ℕ) (r : Result Handle SliceRefusal) → KeepsSlicedHandles old → slice_malloc_code r ≡ pos 0
    → after ≡ malloc_number old.handles before r → Happens (plan_in old.heap) (working_in old.heap) (Malloc bytes r) (working_in new.heap)
    → new.handles ≡ old.handles → IsNewSlicedHandle old after new
is_new old new bytes before after (Ok h) k code is step same = new_handle h.0 after k step.gives.in_range step.gives.unused is same
is_new old new bytes before after (Err refusal.Size) k code is step same = absurd (let e : pos 1 ≡ pos 0 = code in cc)
is_new old new bytes before after (Err refusal.Proxy) k code is step same = absurd (let e : pos 2 ≡ pos 0 = code in cc)
is_new old new bytes before after (Err refusal.Space) k code is step same = absurd (let e : pos 3 ≡ pos 0 = code in cc)
is_new old new bytes before after (Err refusal.Busy) k code is step same = absurd (let e : pos 18 ≡ pos 0 = code in cc)

-- ---- a handle that names no object is refused

pub nothing : (old : SlicedHeldState) {number : ℕ} → KeepsSlicedHandles old → number ≡ none → get old.heap.held number ≡ None
nothing old {number} k is = none_there old.heap.held k is k.rules.consistent.kept.numbers

no_object : (old : SlicedHeldState) (number : ℕ) (v : List ℕ) → KeepsSlicedHandles old → number ≡ none → get (objects old.heap.held) number ≡ Some v → ⊥
no_object old number v k is found =
    let e : None ≡ Some v = sym (get-map_values (λ (x : Placed). x.bytes) old.heap.held number ∙ ap (option_map (λ (x : Placed). x.bytes)) (nothing old k is)) ∙ found in cc

pub free_refused : (old new : SlicedHeldState) (code : ℤ) (r : Result (Unit {0}) SliceFault) (handle number : ℕ) → KeepsSlicedHandles old → number ≡ none → code ≡ slice_free_code r
    → Happens (plan_in old.heap) (working_in old.heap) (Free number (fault_in r)) (working_in new.heap) → new.handles ≡ raised_by old.handles handle r
    → (code ≡ pos 4) × (working_in new.heap ≡ working_in old.heap) × (new.handles ≡ old.handles)
free_refused old new code (Ok u) handle number k is by_code step raises = no_number k is (k.rules.consistent.kept.numbers _ step.removes.freed step.removes.found)
free_refused old new code (Err fault.Unknown) handle number k is by_code step raises = (by_code, step.1, raises)
free_refused old new code (Err fault.Busy) handle number k is by_code step raises = no_number k is (k.rules.consistent.kept.numbers _ step.0.object step.0.found)

pub write_refused : (old new : SlicedHeldState) (position : Position) (bytes : List ℕ) (code : ℤ) (r : Result (Unit {0}) AccessFault) → KeepsSlicedHandles old
    → position.number ≡ none → code ≡ access_code r
    → Happens (plan_in old.heap) (working_in old.heap) (Write position bytes (access_fault r)) (working_in new.heap)
    → (code ≡ pos 4) × (working_in new.heap ≡ working_in old.heap)
write_refused old new position bytes code (Ok u) k is by_code step = no_number k is (k.rules.consistent.kept.numbers _ step.object step.found)
write_refused old new position bytes code (Err access.Unknown) k is by_code step = (by_code, step.1)
write_refused old new position bytes code (Err access.Range) k is by_code step = absurd (no_object old position.number step.0.0 k is step.0.1)

pub read_refused : (old : SlicedHeldState) (position : Position) (before after : List ℕ) (code : ℤ) (r : Result (Unit {0}) AccessFault) → KeepsSlicedHandles old
    → position.number ≡ none → code ≡ access_code r → (IsErr r → after ≡ before)
    → Happens (plan_in old.heap) (working_in old.heap) (Read position (length before) (bytes_or_fault r after)) (working_in old.heap)
    → (code ≡ pos 4) × (after ≡ before)
read_refused old position before after code (Ok u) k is by_code same step = no_number k is (k.rules.consistent.kept.numbers _ step.0.object step.0.found)
read_refused old position before after code (Err access.Unknown) k is by_code same step = (by_code, same refl)
read_refused old position before after code (Err access.Range) k is by_code same step = absurd (no_object old position.number step.0.0 k is step.0.1)

-- ---- a read gives the bytes of the object

pub read_bytes : (old : SlicedHeldState) (position : Position) (before after : List ℕ) (r : Result (Unit {0}) AccessFault) → KeepsSlicedHandles old → access_code r ≡ pos 0
    → Happens (plan_in old.heap) (working_in old.heap) (Read position (length before) (bytes_or_fault r after)) (working_in old.heap)
    → (x : Placed) × (get old.heap.held position.number ≡ Some x) × (length after ≡ length before) × (position.from + length before ≤ length x.bytes)
    × ((k : ℕ) → k < length before → slice_index after k ≡ slice_index x.bytes (position.from + k))
read_bytes old position before after (Ok u) k code step =
    let x = step.0.object in let c = k.rules.consistent in let fits = step.0.fits in (
      x,
      step.0.found,
      step.0.size,
      fits,
      λ i lt. step.0.bytes i lt ∙ byte_there (plan_in old.heap) k.rules.plan (working_in old.heap).state c.kept old.heap.words c.words position.number x
          step.0.found (c.bytes position.number x.bytes (bytes_held old.heap.held position.number x step.0.found)) (position.from + i) (omega arith),
    )
read_bytes old position before after (Err access.Unknown) k code step = absurd (let e : pos 4 ≡ pos 0 = code in cc)
read_bytes old position before after (Err access.Range) k code step = absurd (let e : pos 5 ≡ pos 0 = code in cc)
