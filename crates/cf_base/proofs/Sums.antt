-- Sums over the values of a finite map, after a key is inserted or removed, or gets another value. A key that is removed and then inserted.
use Rattle.std.proofs.Common.{◌≡◌, ℕ, cond, ◌+◌, List, [], ◌∷◌, Some, None, map, arith, sym, ◌∙◌, ap, inl, inr}
use Rattle.std.proofs.lemmas.Bool.{cases_eq}
use Rattle.std.specs.Prelude.{sum_by}
use Rattle.std.proofs.lemmas.List.Sums.{sum_by-cons}
use Rattle.std.specs.declared.cmp.Ordering.{Ordering}
use Rattle.std.specs.declared.cmp.Ordering.TheVariants.{Less, Equal, Greater}
use Rattle.std.specs.Ordering.{nat_cmp, is_eq}
use Rattle.std.specs.Cmp.{nat_cmp_total}
use Rattle.std.specs.FinMap.{FinMap, get, insert, remove, values, entries, entries-insert, get-entries, find}
use Rattle.std.specs.FinMap.Entries.{put, by_order}
use Rattle.cf_base.proofs.Maps.{get_inserted, get_insert_other, get_removed, get_remove_other, equal_maps}

-- removing a key and inserting it again changes nothing
pub put_back : {V : Type 0} (m : FinMap nat_cmp V) (k : ℕ) (v : V) → get m k ≡ Some v → insert (remove m k) k v ≡ m
put_back m k v some = equal_maps _ _ (λ q. elim (cases_eq q k) [
  | inl is ↦ rw is (get_inserted (remove m k) k v ∙ sym some)
  | inr ne ↦ get_insert_other (remove m k) k v q ne ∙ get_remove_other m k q ne
])

-- inserting over a key equals removing it first and then inserting
pub insert_again : {V : Type 0} (m : FinMap nat_cmp V) (k : ℕ) (v : V) → insert (remove m k) k v ≡ insert m k v
insert_again m k v = equal_maps _ _ (λ q. elim (cases_eq q k) [
  | inl is ↦ rw is (get_inserted (remove m k) k v ∙ sym (get_inserted m k v))
  | inr ne ↦ get_insert_other (remove m k) k v q ne ∙ get_remove_other m k q ne ∙ sym (get_insert_other m k v q ne)
])

module _ {V : Type 0} (f : V → ℕ) where
  abbrev total : List (ℕ × V) → ℕ
  total es = sum_by f (map (λ e. e.1) es)

  total-put : (k : ℕ) (v : V) (es : List (ℕ × V)) → find nat_cmp k es ≡ None → total (put nat_cmp k v es) ≡ total es + f v
  total-put k v [] none = omega arith
  total-put k v (e ∷ es) none = go (nat_cmp k e.0) none (λ n. total-put k v es n)
    where
      go : (r : Ordering) → cond (is_eq r) (Some e.1) (find nat_cmp k es) ≡ None → (find nat_cmp k es ≡ None → total (put nat_cmp k v es) ≡ total es + f v)
          → total (by_order r ((k, v) ∷ e ∷ es) ((e.0, v) ∷ es) (e ∷ put nat_cmp k v es)) ≡ total (e ∷ es) + f v
      go Less n ih = (let s : total ((k, v) ∷ e ∷ es) ≡ f v + total (e ∷ es) = sum_by-cons f v (map (λ x. x.1) (e ∷ es)) in omega arith)
      go Equal n ih = absurd (let n' : Some e.1 ≡ None = n in cc)
      go Greater n ih = (
          let a : total (e ∷ put nat_cmp k v es) ≡ f e.1 + total (put nat_cmp k v es) = sum_by-cons f e.1 (map (λ x. x.1) (put nat_cmp k v es)) in
          let b : total (e ∷ es) ≡ f e.1 + total es = sum_by-cons f e.1 (map (λ x. x.1) es) in
          let c : total (put nat_cmp k v es) ≡ total es + f v = ih n in
          omega arith)

  pub sum_by-inserted : (m : FinMap nat_cmp V) (k : ℕ) (v : V) → get m k ≡ None → sum_by f (values (insert m k v)) ≡ sum_by f (values m) + f v
  sum_by-inserted m k v none = ap total (entries-insert nat_cmp_total m k v) ∙ total-put k v (entries m) (sym (get-entries m k) ∙ none)

  pub sum_by-removed : (m : FinMap nat_cmp V) (k : ℕ) (v : V) → get m k ≡ Some v → sum_by f (values (remove m k)) + f v ≡ sum_by f (values m)
  sum_by-removed m k v some = sym (sum_by-inserted (remove m k) k v (get_removed m k)) ∙ ap (λ n. sum_by f (values n)) (put_back m k v some)

  pub sum_by-replaced : (m : FinMap nat_cmp V) (k : ℕ) (v w : V) → get m k ≡ Some v → sum_by f (values (insert m k w)) + f v ≡ sum_by f (values m) + f w
  sum_by-replaced m k v w some =
      let a = sum_by-removed m k v some in
      let b : sum_by f (values (insert (remove m k) k w)) ≡ sum_by f (values (remove m k)) + f w = sum_by-inserted (remove m k) k w (get_removed m k) in
      let c : sum_by f (values (insert m k w)) ≡ sum_by f (values (insert (remove m k) k w)) = ap (λ n. sum_by f (values n)) (sym (insert_again m k w)) in
      omega arith
