-- For `a_busy_malloc_succeeds_after_the_slices`: slices leave the objects' bytes unchanged; once no job is pending, a malloc that was refused as `Busy` has no
-- cause of refusal, so it succeeds.
use Rattle.std.proofs.Common.{◌≡◌, ℕ, zero, suc, arith, sym, ◌∙◌, ap, refl, inl, inr}
use Rattle.std.specs.FinMap.{len}
use Rattle.page_model.specs.Arrangement.{pages_needed_with}
use Rattle.page_model.specs.Held.{objects}
use Rattle.page_model.proofs.CallerLemmas.{len-objects}
use Rattle.slice_model.specs.State.{Plan, IsPlan, Sliced, IsKept, Idle}
use Rattle.slice_model.specs.Steps.{AreSlices, AddsSlicedObject, IsSlicedRefusedBy, LacksUsableSlot}
use Rattle.slice_model.specs.declared.refusals.SliceRefusal.{SliceRefusal}
use Rattle.slice_model.specs.declared.refusals.SliceRefusal.TheVariants as refusal
use Rattle.slice_model.proofs.KeptSteps.{kept_slice}
use Rattle.slice_model.proofs.OneMap.{objects_sliced}
use Rattle.slice_model.proofs.RoomBeside.{answered, idle_is_over}

module _ (plan : Plan) (ok : IsPlan plan) where
  pub slices_keep : (n : ℕ) (old new : Sliced) → IsKept plan old → AreSlices plan n old new → IsKept plan new × (objects new.held ≡ objects old.held)
  slices_keep zero old new kept same = rw same (kept, refl)
  slices_keep (suc n) old new kept (mid, slice, rest) =
      let r = slices_keep n mid new (kept_slice plan ok old mid kept slice) rest in (r.0, r.1 ∙ objects_sliced plan old mid slice)

  module _ (old new : Sliced) (bytes : ℕ) (kept : IsKept plan new) (same : objects new.held ≡ objects old.held) (idle : new.job ≡ Idle)
      (wants : LacksUsableSlot plan old bytes) where
    no : (e : SliceRefusal) → IsSlicedRefusedBy plan new bytes e → ⊥
    no refusal.Size why = (let f = wants.fits in omega arith)
    no refusal.Proxy why =
        let size : len new.held ≡ len old.held = sym (len-objects new.held) ∙ ap (λ o. len o) same ∙ len-objects old.held in
        let all = why.all in
        let few = wants.few in
        omega arith
    no refusal.Space why =
        let e : pages_needed_with plan.paging (objects new.held) bytes ≡ pages_needed_with plan.paging (objects old.held) bytes =
        ap (λ o. pages_needed_with plan.paging o bytes) same in
        let over = why.over in
        let within = wants.within in
        omega arith
    no refusal.Busy why =
        let over = idle_is_over plan ok new kept bytes why.fits idle why.lacking in
        let within = why.within in
        omega arith

    pub done_then : (h : ℕ) × (after : Sliced) × AddsSlicedObject plan new (record { number = h; length = bytes }) after
    done_then = elim (answered plan ok new kept bytes) [
      | inr given ↦ given
      | inl (e, why) ↦ absurd (no e why)
    ]
