-- For proofs about `map_values`: lookups, insertions and removals in a map with a function applied to each value.
use Rattle.std.proofs.Common.{◌≡◌, ℕ, true, false, cond, List, [], ◌∷◌, Some, map, sym, ◌∙◌, subst, ap, refl, inl, inr}
use Rattle.std.specs.Prelude.{T, ◌&&◌, option_map}
use Rattle.std.proofs.lemmas.Bool.{cases_eq}
use Rattle.std.specs.Ordering.{nat_cmp, is_lt, eq_by_cmp}
use Rattle.std.specs.FinMap.{FinMap, get, insert, remove, entries, entries_sorted, get-from_sorted, get-entries, is_sorted, find}
use Rattle.std.specs.FinMap.Entries.{below_all}
use Rattle.cf_base.specs.Maps.{map_values}
use Rattle.cf_base.proofs.Maps.{equal_maps, get_inserted, get_insert_other, get_removed, get_remove_other}

module _ {X Y : Type 0} (f : X → Y) where
  below_map : (x : ℕ) (es : List (ℕ × X)) → below_all nat_cmp x (map (λ e. (e.0, f e.1)) es) ≡ below_all nat_cmp x es
  below_map x [] = refl
  below_map x (e ∷ es) = ap (λ b. is_lt (nat_cmp x e.0) && b) (below_map x es)

  sorted_map : (es : List (ℕ × X)) → is_sorted nat_cmp (map (λ e. (e.0, f e.1)) es) ≡ is_sorted nat_cmp es
  sorted_map [] = refl
  sorted_map (e ∷ es) = λ i. below_map e.0 es i && sorted_map es i

  find_map : (q : ℕ) (es : List (ℕ × X)) → find nat_cmp q (map (λ e. (e.0, f e.1)) es) ≡ option_map f (find nat_cmp q es)
  find_map q [] = refl
  find_map q (e ∷ es) = elim (eq_by_cmp nat_cmp q e.0) as (λ b. cond b (Some (f e.1)) (find nat_cmp q (map (λ e. (e.0, f e.1)) es)) ≡ option_map f
      (cond b (Some e.1) (find nat_cmp q es))) [ true ↦ refl | false ↦ find_map q es ]

  pub get-map_values : (m : FinMap nat_cmp X) (q : ℕ) → get (map_values f m) q ≡ option_map f (get m q)
  unfolding map_values
  get-map_values m q =
      get-from_sorted nat_cmp _ q (subst T (sym (sorted_map (entries m))) (entries_sorted m))
      ∙ find_map q (entries m) ∙ ap (option_map f) (sym (get-entries m q))

pub map_values-insert : {X Y : Type 0} (f : X → Y) (m : FinMap nat_cmp X) (h : ℕ) (x : X) → map_values f (insert m h x) ≡ insert (map_values f m) h (f x)
map_values-insert f m h x = equal_maps _ _ (λ q. elim (cases_eq q h) [
  | inl is ↦ rw is (get-map_values f (insert m h x) h ∙ ap (option_map f) (get_inserted m h x) ∙ sym (get_inserted (map_values f m) h (f x)))
  | inr ne ↦ get-map_values f (insert m h x) q ∙ ap (option_map f) (get_insert_other m h x q ne) ∙ sym (get-map_values f m q)
      ∙ sym (get_insert_other (map_values f m) h (f x) q ne)
])

pub map_values-remove : {X Y : Type 0} (f : X → Y) (m : FinMap nat_cmp X) (h : ℕ) → map_values f (remove m h) ≡ remove (map_values f m) h
map_values-remove f m h = equal_maps _ _ (λ q. elim (cases_eq q h) [
  | inl is ↦ rw is (get-map_values f (remove m h) h ∙ ap (option_map f) (get_removed m h) ∙ sym (get_removed (map_values f m) h))
  | inr ne ↦ get-map_values f (remove m h) q ∙ ap (option_map f) (get_remove_other m h q ne) ∙ sym (get-map_values f m q)
      ∙ sym (get_remove_other (map_values f m) h q ne)
])
