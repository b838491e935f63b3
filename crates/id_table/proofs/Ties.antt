-- For proofs about sessions: ids stay tied to the objects (`AreTiedTo`) when an object is made, freed or changed; without ids and objects they are tied. Also
-- (`clash`): a look-up doesn't both find a value and find none.
use Rattle.std.proofs.Common.{◌≡◌, ℕ, Some, None, sym, ◌∙◌, ap, inl, inr}
use Rattle.std.specs.Prelude.{Option}
use Rattle.std.proofs.lemmas.Bool.{cases_eq}
use Rattle.std.proofs.lemmas.Option.{same_Some}
use Rattle.std.specs.Ordering.{nat_cmp}
use Rattle.std.specs.FinMap.{FinMap, empty, get, get-empty, insert, remove}
use Rattle.cf_base.proofs.Maps.{get_inserted, get_insert_other, get_remove_other, some_inserted, some_removed}
use Rattle.id_table.specs.Ids.{Ids}
use Rattle.id_table.specs.Ties.{AreTiedTo}

-- a lookup doesn't both find a value and find none
pub clash : {T V : Type 0} (o : Option V) (v : V) → o ≡ Some v → o ≡ None → T
clash o v some none = absurd (let z : Some v ≡ None = sym some ∙ none in cc)

-- if no id is live and there is no object, ids and objects are tied
pub none_tied : {V : Type 0} (ids : Ids) (live : FinMap nat_cmp V) → ids ≡ empty → live ≡ empty → AreTiedTo ids live
none_tied {V} ids live no_ids no_objects = record {
  named = λ id h is. clash (get ids id) h is (ap (λ (i : Ids). get i id) no_ids ∙ get-empty nat_cmp id);
  once = λ id other h is. clash (get ids id) h is (ap (λ (i : Ids). get i id) no_ids ∙ get-empty nat_cmp id);
  all = λ h v is. clash (get live h) v is (ap (λ (o : FinMap nat_cmp V). get o h) no_objects ∙ get-empty nat_cmp h);
}

module _ {V : Type 0} (ids : Ids) (live : FinMap nat_cmp V) (tied : AreTiedTo ids live) where
  -- ids and objects stay tied if an object is made, with an unused number h, for an id that wasn't live
  pub tied_more : (id h : ℕ) (v : V) → get ids id ≡ None → get live h ≡ None → AreTiedTo (insert ids id h) (insert live h v)
  tied_more id h v free unused = record {
    named = λ i q is. elim (some_inserted ids id h i q is) [
      | inl (_, e) ↦ (v, ap (get (insert live h v)) (sym e) ∙ get_inserted live h v)
      | inr (_, was) ↦ (
          let o = tied.named i q was in
          (o.0, get_insert_other live h v q (λ e. clash (get live q) o.0 o.1 (ap (get live) e ∙ unused)) ∙ o.1))
    ];
    once = λ i j q one other. elim (some_inserted ids id h i q one) [
      | inl (at, e) ↦ elim (some_inserted ids id h j q other) [
        | inl (too, _) ↦ too ∙ sym at
        | inr (_, was) ↦ (let o = tied.named j q was in clash (get live q) o.0 o.1 (ap (get live) (sym e) ∙ unused))
      ]
      | inr (_, was) ↦ elim (some_inserted ids id h j q other) [
        | inl (_, e) ↦ (let o = tied.named i q was in clash (get live q) o.0 o.1 (ap (get live) (sym e) ∙ unused))
        | inr (_, too) ↦ tied.once i j q was too
      ]
    ];
    all = λ q w is. elim (some_inserted live h v q w is) [
      | inl (at, _) ↦ (id, get_inserted ids id h ∙ ap (λ k. Some k) (sym at))
      | inr (_, was) ↦ (
          let i = tied.all q w was in
          (i.0, get_insert_other ids id h i.0 (λ e. clash (get ids i.0) q i.1 (ap (get ids) e ∙ free)) ∙ i.1))
    ];
  }

  -- ids and objects stay tied if the object of an id is freed
  pub tied_less : (id h : ℕ) → get ids id ≡ Some h → AreTiedTo (remove ids id) (remove live h)
  tied_less id h is_live = record {
    named = λ i q is. (
        let r = some_removed ids id i q is in
        let o = tied.named i q r.1 in
        (o.0, get_remove_other live h q (λ e. r.0 (tied.once id i h is_live (r.1 ∙ ap (λ k. Some k) e))) ∙ o.1));
    once = λ i j q one other. tied.once i j q (some_removed ids id i q one).1 (some_removed ids id j q other).1;
    all = λ q v is. (
        let r = some_removed live h q v is in
        let i = tied.all q v r.1 in
        (i.0, get_remove_other ids id i.0 (λ e. r.0 (same_Some q h (sym i.1 ∙ ap (get ids) e ∙ is_live))) ∙ i.1));
  }

  -- ids and objects stay tied if the value of an object changes
  pub tied_same : (h : ℕ) (v w : V) → get live h ≡ Some v → AreTiedTo ids (insert live h w)
  tied_same h v w found = record {
    named = λ i q is. elim (cases_eq q h) [
      | inl at ↦ (w, ap (get (insert live h w)) at ∙ get_inserted live h w)
      | inr ne ↦ (let o = tied.named i q is in (o.0, get_insert_other live h w q ne ∙ o.1))
    ];
    once = tied.once;
    all = λ q x is. elim (some_inserted live h w q x is) [
      | inl (at, _) ↦ (let i = tied.all h v found in (i.0, i.1 ∙ ap (λ k. Some k) (sym at)))
      | inr (_, was) ↦ tied.all q x was
    ];
  }
