-- For `Held::free`: what a free of the number that a handle names does.
use Rattle.std.proofs.Common.{◌≡◌, ℕ, refl, subst, sym}
use Rattle.std.specs.Prelude.{Result}
use Rattle.cf_base.specs.declared.results.NotLive.{NotLive}
use Rattle.large_objects.specs.LargeCosts.{first_count, large_free_steps, moving_costs}
use Rattle.large_objects.specs.LargeSteps.{IsLargeFree, StaysKept}
use Rattle.step_ledger.specs.Counting.{RoseAtMost}
use Rattle.c_base.specs.Codes.{free_code}
use Rattle.c_base.specs.Handles.{number_in, raised_by}
use Rattle.norphuen_large.specs.Calls.{IsLargeFreeCall}
use Rattle.norphuen_large.specs.HeldState.{LargeHeldState}

-- `old` is seen as `mid`; `begun` is the count of the meter when the heap's own free began, `count` when it ended
pub freed : (old mid : LargeHeldState) (handle number begun count : ℕ) (r : Result (Unit {0}) NotLive) (new : LargeHeldState) → mid ≡ old → number ≡ number_in mid.handles handle
    → IsLargeFree mid.heap number r new.heap → StaysKept mid.heap new.heap → begun ≡ 0 → new.steps ≡ count
    → RoseAtMost (first_count begun) count (large_free_steps moving_costs mid.heap number) → new.handles ≡ raised_by mid.handles handle r
    → IsLargeFreeCall old handle (free_code r) new
freed old mid handle number begun count r new same is step kept zero counted bound raises =
    subst (λ (h : LargeHeldState). IsLargeFreeCall h handle (free_code r) new) same (record {
      answer = r;
      by_code = refl;
      step = subst (λ (n : ℕ). IsLargeFree mid.heap n r new.heap) is step;
      kept = kept;
      bound = subst (λ (n : ℕ). RoseAtMost 0 new.steps (large_free_steps moving_costs mid.heap n)) is
          (subst (λ (k : ℕ). RoseAtMost 0 k (large_free_steps moving_costs mid.heap number)) (sym counted)
          (subst (λ (m : ℕ). RoseAtMost (first_count m) count (large_free_steps moving_costs mid.heap number)) zero bound));
      raises = raises;
    })
