-- For `make`, `free` and `write` of `HeldImages`: what holds of every open heap (`IsNamed`) holds after the call, and the call does what its contract says. For
-- `make` and `number`: which ids are live, and that no id of more than 16 bits is.
use Rattle.std.proofs.Common.{◌≡◌, ◌∙◌, ◌≤◌, ℕ, ℤ, pos, Bool, true, false, List, Option, Some, None, refl, ap, sym, subst, arith, inl}
use Rattle.std.specs.Prelude.{Result, Ok, Err, is_ok, is_some}
use Rattle.std.specs.FinMap.{get}
use Rattle.cf_base.specs.Settings.{Profile}
use Rattle.cf_base.specs.declared.results.AccessFault.{AccessFault}
use Rattle.cf_base.specs.declared.results.Handle.{Handle}
use Rattle.cf_base.specs.declared.results.Refusal.{Refusal}
use Rattle.cf_model.specs.Rules.{KeepsRules}
use Rattle.cf_model.specs.State.{HeapState}
use Rattle.cf_model.specs.Steps.{IsMallocStep, IsRefusedBy, IsWriteStep, number_of}
use Rattle.page_model.specs.Held.{Held}
use Rattle.c_base.specs.Codes.{access_code}
use Rattle.id_table.specs.Ids.{AreWithin, Ids}
use Rattle.id_table.specs.Named.{FreesNamed, MakesNamed}
use Rattle.id_table.specs.Sessions.{CostsAtMost, IsGoing, RunState, run_at}
use Rattle.id_table.specs.Ties.{AreTiedTo}
use Rattle.id_table.proofs.CallerLemmas.{tied_same}
use Rattle.norphuen_images.specs.Calls.{IsImagesFreeCall, IsImagesWriteCall, IsMakeCall, number_by}
use Rattle.norphuen_images.specs.State.{IsNamed}

module _ (p : Profile) (old new : RunState) (named : IsNamed p old) where
  abbrev After : Type 0
  After = IsNamed p new

  after : IsGoing new → AreWithin new.session.ids → new.heap.kind ≡ old.heap.kind → new.heap.profile ≡ old.heap.profile → After
  after going within kind profile = record { going = going; kind = kind ∙ named.kind; within = within; profile = profile ∙ named.profile }

  pub named_made : (id bytes : ℕ) (made : Bool) → MakesNamed old id bytes made new → IsGoing new → AreWithin new.session.ids → After
  named_made id bytes made call going within = by call.answer call.step
    where
      by : (r : Result Handle Refusal) → IsMallocStep old.heap bytes r new.heap → After
      by (Ok h) step = after going within (ap (λ (s : HeapState). s.kind) step.whole) (ap (λ (s : HeapState). s.profile) step.whole)
      by (Err e) step = after going within (ap (λ (s : HeapState). s.kind) step.1) (ap (λ (s : HeapState). s.profile) step.1)

  pub named_freed : (id : ℕ) → FreesNamed old id new → IsGoing new → AreWithin new.session.ids → After
  named_freed id call going within = after going within call.step.rest.kind call.step.rest.profile

  -- a write keeps the ids and the steps of the last call
  pub named_written : (number from : ℕ) (bytes : List ℕ) (r : Result (Unit {0}) AccessFault)
      → IsWriteStep old.heap (record { number = number; from = from }) bytes r new.heap → KeepsRules new.heap → new.session ≡ old.session → After
  named_written number from bytes (Err e) step rules same =
      let is : new ≡ old = (λ i. run_at (same i) (step.1 i)) in
      subst (IsNamed p) (sym is) named
  named_written number from bytes (Ok u) step rules same =
      let whole = step.whole in
      let going : IsGoing new = record {
        opened = ap (λ (s : HeapState). s.is_open) whole ∙ named.going.opened;
        rules = rules;
        tied = record {
          ids = subst (λ (i : Ids). AreTiedTo i new.heap.held) (ap (λ s. s.ids) (sym same))
              (subst (λ (h : Held). AreTiedTo old.session.ids h) (ap (λ (s : HeapState). s.held) (sym whole))
              (tied_same old.session.ids old.heap.held named.going.tied.ids number step.object _ step.found));
          cost = subst (λ (b : ℕ). CostsAtMost new.heap.kind new.heap.cost b) (ap (λ s. s.bound) (sym same))
              (subst (λ (h : HeapState). CostsAtMost h.kind h.cost old.session.bound) (sym whole) named.going.tied.cost);
        };
      } in
      after going (subst (λ (i : Ids). AreWithin i) (ap (λ s. s.ids) (sym same)) named.within) (ap (λ (s : HeapState). s.kind) whole) (ap (λ (s : HeapState). s.profile) whole)

-- The state before the call is `inside`, which is what contracts see as `old`.
module _ (p : Profile) (inside old new : RunState) (is : inside ≡ old) (before : IsNamed p inside) (after : IsNamed p new) where
  still : IsNamed old.heap.profile new
  still = subst (λ q. IsNamed q new) (sym before.profile ∙ ap (λ (s : RunState). s.heap.profile) is) after

  pub free_call : (id : ℕ) → FreesNamed inside id new → IsImagesFreeCall old id (pos 0) new
  free_call id call = inl (refl, subst (λ (s : RunState). FreesNamed s id new) is call, still)

  -- a malloc that is refused for no cause makes the object of an id that had none
  pub make_call : (id bytes : ℕ) (made : Bool) → get inside.session.ids id ≡ None → ((e : Refusal) → ¬ IsRefusedBy inside.heap bytes e)
      → MakesNamed inside id bytes made new → IsMakeCall old id bytes (pos 0) new
  make_call id bytes made none free call =
      inl (
        refl,
        subst (λ (s : RunState). get s.session.ids id ≡ None) is none,
        subst (λ (s : RunState). MakesNamed s id bytes true new) is
            (record { answer = call.answer; step = call.step; session = call.session; made_if = by call.answer call.step }),
        still,
      )
    where
      by : (r : Result Handle Refusal) → IsMallocStep inside.heap bytes r new.heap → true ≡ is_ok r
      by (Ok h) step = refl
      by (Err e) step = absurd (free e step.0)

  pub write_call : (id number from : ℕ) (bytes : List ℕ) (code : ℤ) (answer : Result (Unit {0}) AccessFault) → number ≡ number_by (get old.session.ids id)
      → code ≡ access_code answer → IsWriteStep inside.heap (record { number = number; from = from }) bytes answer new.heap → new.session ≡ inside.session
      → IsImagesWriteCall old id from bytes code new
  write_call id number from bytes code answer same by_code step session = record {
    answer = answer;
    by_code = by_code;
    step = subst (λ n. IsWriteStep old.heap (record { number = n; from = from }) bytes answer new.heap) same
        (subst (λ (s : RunState). IsWriteStep s.heap (record { number = number; from = from }) bytes answer new.heap) is step);
    session = session ∙ ap (λ (s : RunState). s.session) is;
    named = still;
  }

-- an id whose number was found is live
pub live_found : (o : Option Handle) (ids : Ids) (id : ℕ) → number_of o ≡ get ids id → true ≡ is_some o → (h : ℕ) × (get ids id ≡ Some h)
live_found (Some h) ids id found some = (h.0, sym found)
live_found None ids id found some = absurd (let z : true ≡ false = some in cc)

-- an id without a number is not live
pub none_found : (o : Option Handle) (ids : Ids) (id : ℕ) → number_of o ≡ get ids id → false ≡ is_some o → get ids id ≡ None
none_found (Some h) ids id found none = absurd (let z : false ≡ true = none in cc)
none_found None ids id found none = sym found

-- no id of more than 16 bits is live
pub none_above : (p : Profile) (s : RunState) → IsNamed p s → (id : ℕ) → 65536 ≤ id → get s.session.ids id ≡ None
none_above p s named id large = go (get s.session.ids id) refl
  where
    go : (o : Option ℕ) → get s.session.ids id ≡ o → get s.session.ids id ≡ None
    go None e = e
    go (Some h) e = absurd (let low = named.within.below id h e in omega (arith, low, large))
