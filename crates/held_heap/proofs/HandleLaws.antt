-- For `laws`: what keeps the rules of the handles (`KeepsHandles`); a malloc's handle is new; a handle that names no object is refused.
use Rattle.std.proofs.Common.{◌≡◌, ℕ, ℤ, pos, List, Option, Some, None, refl, sym, ◌∙◌, ap, subst}
use Rattle.std.specs.Prelude.{Result, Ok, Err}
use Rattle.std.specs.FinMap.{get}
use Rattle.cf_base.specs.Settings.{Profile}
use Rattle.cf_base.specs.declared.results.AccessFault.{AccessFault}
use Rattle.cf_base.specs.declared.results.AccessFault.TheVariants as access
use Rattle.cf_base.specs.declared.results.Freed.{Freed}
use Rattle.cf_base.specs.declared.results.Handle.{Handle}
use Rattle.cf_base.specs.declared.results.NotLive.{NotLive}
use Rattle.cf_base.specs.declared.results.Refusal.{Refusal}
use Rattle.cf_base.specs.declared.results.Refusal.TheVariants as refusal
use Rattle.cf_base.specs.declared.results.Resized.{Resized}
use Rattle.cf_base.specs.declared.results.ResizeFault.{ResizeFault}
use Rattle.cf_base.specs.declared.results.ResizeFault.TheVariants as resize
use Rattle.cf_base.specs.declared.kind.Kind.{Kind}
use Rattle.cf_model.specs.Answers.{with_bound}
use Rattle.cf_model.specs.Rules.{KeepsRules}
use Rattle.cf_model.specs.Steps.{ChangesCost, IsFreeStep, IsMallocStep, IsReadAnswer, IsResizeStep, IsWriteStep, Position}
use Rattle.page_model.specs.Held.{Placed}
use Rattle.page_model.specs.Steps.{Request}
use Rattle.held_heap.specs.Bound.{IsBoundCall, bound_code, class_with_bound}
use Rattle.held_heap.specs.Calls.{resized_shown}
use Rattle.c_base.specs.Shown.{freed_shown, malloc_number}
use Rattle.c_base.specs.Codes.{access_code, free_code, malloc_code, resize_code}
use Rattle.held_heap.specs.HandleRules.{IsNewHandle, KeepsHandles}
use Rattle.c_base.specs.Handles.{none, raised_by}
use Rattle.held_heap.specs.HeldState.{HeldState}
use Rattle.c_base.specs.Shown.{found_code, found_number, freed_shown, malloc_number}
use Rattle.c_base.specs.declared.results.NphFreed.{NphFreed}
use Rattle.c_base.specs.declared.results.NphResized.{NphResized}
use Rattle.c_base.proofs.CallerLemmas.{new_handle, no_number, same_handles}
use Rattle.held_heap.proofs.SettingsStay.{settings}

-- ---- each call keeps the rules of the handles

-- a set bound keeps the rules, whatever its code
pub bound_rules : (old new : HeldState) (words n : ℕ) (code : ℤ) → IsBoundCall old words n code new → KeepsRules old.heap → KeepsRules new.heap
bound_rules old new words n code c rules = by_class (class_with_bound old.heap words n) refl
  where
    by_class : (o : Option ℕ) → class_with_bound old.heap words n ≡ o → KeepsRules new.heap
    by_class None is = subst KeepsRules (sym (ap (λ (h : HeldState). h.heap) c.whole ∙ ap (λ (o : Option ℕ). with_bound old.heap o n) is)) rules
    by_class (Some class) is = c.rules (c.by_code ∙ ap (bound_code old.heap n) is)

pub keeps : (old new : HeldState) → KeepsRules new.heap → settings new.heap ≡ settings old.heap → new.handles ≡ old.handles → KeepsHandles old → KeepsHandles new
keeps old new rules stay same k = same_handles k rules (ap (λ (q : Kind × Profile). q.1.proxies) stay) same

-- ---- the handle of a malloc is new

pub is_new : (old new : HeldState) (bytes before after : ℕ) (r : Result Handle Refusal) → KeepsHandles old → malloc_code r ≡ pos 0
    → after ≡ malloc_number old.handles before r → IsMallocStep old.heap bytes r new.heap → new.handles ≡ old.handles → IsNewHandle old after new
is_new old new bytes before after (Ok h) k code is step same = new_handle h.0 after k step.in_range step.unused is same
is_new old new bytes before after (Err refusal.Size) k code is step same = absurd (let e : pos 1 ≡ pos 0 = code in cc)
is_new old new bytes before after (Err refusal.Proxy) k code is step same = absurd (let e : pos 2 ≡ pos 0 = code in cc)
is_new old new bytes before after (Err refusal.Space) k code is step same = absurd (let e : pos 3 ≡ pos 0 = code in cc)

-- ---- a handle that names no object is refused

no_object : {A : Type 0} (old : HeldState) {number : ℕ} {x : Placed} → KeepsHandles old → number ≡ none → get old.heap.held number ≡ Some x → A
no_object {A} old {number} {x} k is found = no_number k is (k.rules.numbers.handles number x found)

pub free_refused : (old new : HeldState) (before after : NphFreed) (code : ℤ) (r : Result Freed NotLive) (handle number : ℕ) → KeepsHandles old → number ≡ none
    → code ≡ free_code r → after ≡ freed_shown new.handles before r → IsFreeStep old.heap number r new.heap → new.handles ≡ raised_by old.handles handle r
    → (code ≡ pos 4) × (after ≡ before) × ChangesCost old.heap new.heap × (new.handles ≡ old.handles)
free_refused old new before after code (Err e) handle number k is by_code by_freed step raises = (by_code, by_freed, step.1, raises)
free_refused old new before after code (Ok f) handle number k is by_code by_freed step raises = no_object old k is step.found

pub resize_refused : (old new : HeldState) (before after : NphResized) (code : ℤ) (asked : Request) (r : Result Resized ResizeFault) → KeepsHandles old
    → asked.number ≡ none → code ≡ resize_code r → after ≡ resized_shown old.handles before r → IsResizeStep old.heap asked r new.heap
    → (code ≡ pos 4) × (after ≡ before)
resize_refused old new before after code asked (Ok done) k is by_code by_resized step = no_object old k is step.found
resize_refused old new before after code asked (Err resize.Unknown) k is by_code by_resized step = (by_code, by_resized)
resize_refused old new before after code asked (Err resize.Kind) k is by_code by_resized step = no_object old k is step.0.found
resize_refused old new before after code asked (Err resize.Size) k is by_code by_resized step = no_object old k is step.0.found
resize_refused old new before after code asked (Err resize.Space) k is by_code by_resized step = no_object old k is step.0.found

pub write_refused : (old new : HeldState) (position : Position) (bytes : List ℕ) (code : ℤ) (r : Result (Unit {0}) AccessFault) → KeepsHandles old
    → position.number ≡ none → code ≡ access_code r → IsWriteStep old.heap position bytes r new.heap → (code ≡ pos 4) × (new.heap ≡ old.heap)
write_refused old new position bytes code (Ok u) k is by_code step = no_object old k is step.found
write_refused old new position bytes code (Err access.Unknown) k is by_code step = (by_code, step.1)
write_refused old new position bytes code (Err access.Range) k is by_code step = no_object old k is step.0.found

pub read_refused : (old : HeldState) (position : Position) (before after : List ℕ) (code : ℤ) (r : Result (Unit {0}) AccessFault) → KeepsHandles old
    → position.number ≡ none → code ≡ access_code r → IsReadAnswer old.heap position before r after → (code ≡ pos 4) × (after ≡ before)
read_refused old position before after code (Ok u) k is by_code step = no_object old k is step.found
read_refused old position before after code (Err access.Unknown) k is by_code step = (by_code, step.1)
read_refused old position before after code (Err access.Range) k is by_code step = no_object old k is step.0.found
