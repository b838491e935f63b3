-- For sessions, whose objects have a number and an id: two maps with the same values, one by number and one by id, have as many keys and the same sums over
-- their values.
use Rattle.std.proofs.Common.{◌≡◌, ℕ, ◌+◌, Some, None, arith, sym, ◌∙◌, ap, refl, inl, inr, subst}
use Rattle.std.specs.Prelude.{sum_by, Option}
use Rattle.std.proofs.lemmas.Bool.{cases_eq}
use Rattle.std.specs.Ordering.{nat_cmp}
use Rattle.std.specs.FinMap.{FinMap, empty, get, insert, remove, len, values, get-empty}
use Rattle.cf_base.proofs.Maps.{equal_maps, get_inserted, get_insert_other, get_remove_other, get_removed, len_fresh, some_removed}
use Rattle.cf_base.proofs.Sums.{put_back, sum_by-inserted, sum_by-removed}
use Rattle.cf_base.proofs.Induction.{map_induction}

module _ {V : Type 0} where
  -- `ids` maps ids to numbers: n has under each id the value that m has under the id's number, and each number belongs to one id
  pub record AreRenamed (ids : FinMap nat_cmp ℕ) (m n : FinMap nat_cmp V) : Type 0 where
    pub found : (id : ℕ) (v : V) → get n id ≡ Some v → (h : ℕ) × (get ids id ≡ Some h) × (get m h ≡ Some v)
    pub all : (h : ℕ) (v : V) → get m h ≡ Some v → (id : ℕ) × (get ids id ≡ Some h) × (get n id ≡ Some v)
    pub once : (id other h : ℕ) → get ids id ≡ Some h → get ids other ≡ Some h → other ≡ id

  -- two maps have the same number of keys, and each sum over their values is the same
  pub record CountAlike (m n : FinMap nat_cmp V) : Type 0 where
    pub count : len n ≡ len m
    pub sums : (f : V → ℕ) → sum_by f (values n) ≡ sum_by f (values m)

  only_empty : (ids : FinMap nat_cmp ℕ) (m : FinMap nat_cmp V) → AreRenamed ids m empty → m ≡ empty
  only_empty ids m r = equal_maps _ _ (λ q. go q (get m q) refl ∙ sym (get-empty nat_cmp q))
    where
      go : (q : ℕ) (o : Option V) → get m q ≡ o → get m q ≡ None
      go q None e = e
      go q (Some v) e = absurd (let f = r.all q v e in let g : get (empty {X = V} {R = nat_cmp}) f.0 ≡ None = get-empty nat_cmp f.0 in let h : Some v ≡ None =
          sym f.2 ∙ g in cc)

  module _ (ids : FinMap nat_cmp ℕ) (m n : FinMap nat_cmp V) (id : ℕ) (v : V) (none : get n id ≡ None) (r : AreRenamed ids m (insert n id v))
      (number : ℕ) (named : get ids id ≡ Some number) where
    -- the maps are still so related after the id and its number are removed
    fewer : AreRenamed (remove ids id) (remove m number) n
    fewer = record {
      found = λ q w e. elim (cases_eq q id) [
        | inl is ↦ absurd (let e' : get n id ≡ Some w = rw (← is) e in cc)
        | inr ne ↦ (
            let f = r.found q w (get_insert_other n id v q ne ∙ e) in
            let apart = (λ (is : f.0 ≡ number). ne (r.once id q number named (rw (← is) f.1))) in
            (f.0, get_remove_other ids id q ne ∙ f.1, get_remove_other m number f.0 apart ∙ f.2))
      ];
      all = λ g w e. (
          let s = some_removed m number g w e in
          let f = r.all g w s.1 in
          let ne = (λ (is : f.0 ≡ id). s.0 (let a = f.1 in let b = named in let c : get ids id ≡ Some g = rw (← is) a in cc)) in
          (f.0, get_remove_other ids id f.0 ne ∙ f.1, sym (get_insert_other n id v f.0 ne) ∙ f.2));
      once = λ q other h a b. r.once q other h (some_removed ids id q h a).1 (some_removed ids id other h b).1;
    }

  pub counted_alike : (n : FinMap nat_cmp V) (ids : FinMap nat_cmp ℕ) (m : FinMap nat_cmp V) → AreRenamed ids m n → CountAlike m n
  counted_alike = map_induction (λ n. (ids : FinMap nat_cmp ℕ) (m : FinMap nat_cmp V) → AreRenamed ids m n → CountAlike m n)
      (λ ids m r. subst (λ x. CountAlike x empty) (sym (only_empty ids m r)) (record { count = refl; sums = λ f. refl }))
      (λ n id v none before ids m r. (
      let h = r.found id v (get_inserted n id v) in
      let rest = before (remove ids id) (remove m h.0) (fewer ids m n id v none r h.0 h.1) in
      record {
        count = (
            let a = len_fresh n id v none in
            let b : len (insert (remove m h.0) h.0 v) ≡ len (remove m h.0) + 1 = len_fresh (remove m h.0) h.0 v (get_removed m h.0) in
            let c : len (insert (remove m h.0) h.0 v) ≡ len m = ap len (put_back m h.0 v h.2) in
            let d = rest.count in
            omega arith);
        sums = λ f. (
            let a = sum_by-inserted f n id v none in
            let b = sum_by-removed f m h.0 v h.2 in
            let d = rest.sums f in
            omega arith);
      }))
