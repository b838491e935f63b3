-- For `Names`: each of its calls keeps the run in progress.
use Rattle.std.proofs.Common.{◌≡◌, ◌∙◌, ◌+◌, ◌*◌, ℕ, List, Option, Some, None, refl, ap, sym, subst, arith}
use Rattle.std.specs.Prelude.{Result, Ok, Err}
use Rattle.std.specs.FinMap.{get, remove}
use Rattle.cf_base.specs.declared.results.Freed.{Freed}
use Rattle.cf_base.specs.declared.results.Handle.{Handle}
use Rattle.cf_base.specs.declared.results.Refusal.{Refusal}
use Rattle.cf_base.specs.declared.kind.Kind.{Kind}
use Rattle.cf_model.specs.Costs.{TakesAtMost}
use Rattle.cf_model.specs.Rules.{KeepsRules}
use Rattle.cf_model.specs.State.{HeapState}
use Rattle.cf_model.specs.Steps.{FreesObject, IsMallocStep, WritesBytes}
use Rattle.page_model.specs.Held.{Held, objects}
use Rattle.id_table.specs.Counters.{with_move}
use Rattle.id_table.specs.Ids.{Ids}
use Rattle.id_table.specs.Named.{ids_given}
use Rattle.id_table.specs.Sessions.{CostsAtMost, IsGoing, RunState, SessionState}
use Rattle.id_table.specs.Ties.{AreTiedTo}
use Rattle.id_table.specs.declared.counters.Counters.{Counters}
use Rattle.id_table.proofs.CallerLemmas.{costs_at_most, names_of_held, names_of_objects, tied_less, tied_more, tied_same}

-- the steps that a call added are within the bound for pages, if the kind has pages
costs : (k : Kind) (a b n m cost : ℕ) → TakesAtMost k a b n m → b ≡ a + cost → CostsAtMost k cost n
costs k a b n m cost took is = costs_at_most k cost n (λ e. (let r = rw (e, TakesAtMost) at took in let most = r.bound in omega arith))

-- counting a move keeps the step bound
pub moved_bound : {T : Type 0} (c : Counters) (moved : Option T) (n : ℕ) → (with_move c moved n).bound ≡ c.bound
moved_bound c None n = refl
moved_bound c (Some h) n = refl

module _ (old new : RunState) (going : IsGoing old) (rules : KeepsRules new.heap) where
  abbrev ids : Ids
  ids = old.session.ids

  going_by : new.heap.kind ≡ old.heap.kind → new.heap.is_open ≡ old.heap.is_open → (left : Ids) (m : Held) → new.session.ids ≡ left → new.heap.held ≡ m
      → AreTiedTo left m → CostsAtMost old.heap.kind new.heap.cost new.session.bound → IsGoing new
  going_by k o left m is held names cost = record {
    opened = o ∙ going.opened;
    rules = rules;
    tied = record {
      ids = subst (λ (i : Ids). AreTiedTo i new.heap.held) (sym is) (subst (λ (h : Held). AreTiedTo left h) (sym held) names);
      cost = subst (λ (k : Kind). CostsAtMost k new.heap.cost new.session.bound) (sym k) cost;
    };
  }

  pub malloc_going : (id n a b : ℕ) (answer : Result Handle Refusal) → get ids id ≡ None → IsMallocStep old.heap n answer new.heap
      → TakesAtMost old.heap.kind a b 64 25 → b ≡ a + new.heap.cost → new.session.ids ≡ ids_given ids id answer → new.session.bound ≡ 64 → IsGoing new
  malloc_going id n a b answer none step took cost given bound = by answer step given
    where
      within : CostsAtMost old.heap.kind new.heap.cost new.session.bound
      within = subst (λ (k : ℕ). CostsAtMost old.heap.kind new.heap.cost k) (sym bound) (costs old.heap.kind a b 64 25 new.heap.cost took cost)

      by : (answer : Result Handle Refusal) → IsMallocStep old.heap n answer new.heap → new.session.ids ≡ ids_given ids id answer → IsGoing new
      by (Ok h) step given =
          let whole = step.whole in
          going_by (ap (λ (s : HeapState). s.kind) whole) (ap (λ (s : HeapState). s.is_open) whole) _ _ given (ap (λ (s : HeapState). s.held) whole)
          (tied_more ids old.heap.held going.tied.ids id h.0 _ none step.unused) within
      by (Err e) step given =
          let same = step.1 in
          going_by (ap (λ (s : HeapState). s.kind) same) (ap (λ (s : HeapState). s.is_open) same) _ _ given (ap (λ (s : HeapState). s.held) same)
          going.tied.ids within

  pub free_going : (id h a b m : ℕ) (freed : Freed) → get ids id ≡ Some h → FreesObject old.heap h freed new.heap
      → TakesAtMost old.heap.kind a b (96 + 2 * freed.slot_words) m → b ≡ a + new.heap.cost → new.session.ids ≡ remove ids id
      → new.session.bound ≡ 96 + 2 * freed.slot_words → IsGoing new
  free_going id h a b m freed some step took cost is bound =
      let gone = tied_less ids (objects old.heap.held) (names_of_objects ids old.heap.held going.tied.ids) id h some in
      let left = names_of_held (remove ids id) new.heap.held (subst (λ m. AreTiedTo (remove ids id) m) (sym step.left) gone) in
      going_by step.rest.kind step.rest.opened _ _ is refl left
      (subst (λ (k : ℕ). CostsAtMost old.heap.kind new.heap.cost k) (sym bound) (costs old.heap.kind a b _ m new.heap.cost took cost))

  pub write_going : (h at : ℕ) (bytes : List ℕ) → WritesBytes old.heap (record { number = h; from = at }) bytes new.heap → new.session ≡ old.session → IsGoing new
  write_going h at bytes step same =
      let whole = step.whole in
      going_by (ap (λ (s : HeapState). s.kind) whole) (ap (λ (s : HeapState). s.is_open) whole) _ _ (ap (λ (s : SessionState). s.ids) same)
      (ap (λ (s : HeapState). s.held) whole) (tied_same ids old.heap.held going.tied.ids h step.object _ step.found)
      ((λ (x : CostsAtMost old.heap.kind old.heap.cost old.session.bound). subst (λ (c : ℕ). CostsAtMost old.heap.kind c new.session.bound)
      (sym (ap (λ (s : HeapState). s.cost) whole)) (subst (λ (k : ℕ). CostsAtMost old.heap.kind old.heap.cost k) (sym (ap (λ (s : SessionState). s.bound) same)) x))
      going.tied.cost)
