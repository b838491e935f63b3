-- Induction on finite maps whose keys are numbers: what holds of the empty map, and of each map with one more key, holds of every map.
use Rattle.std.proofs.Common.{◌≡◌, ℕ, Bool, true, false, cond, List, [], ◌∷◌, Some, None, sym, ◌∙◌, ap, subst, refl}
use Rattle.std.specs.Prelude.{T, ◌&&◌}
use Rattle.std.specs.declared.cmp.Ordering.{Ordering}
use Rattle.std.specs.declared.cmp.Ordering.TheVariants.{Less, Equal, Greater}
use Rattle.std.specs.Ordering.{nat_cmp, is_lt, is_eq}
use Rattle.std.specs.Cmp.{nat_cmp_total}
use Rattle.std.specs.FinMap.{FinMap, get, insert, empty, from_entries, entries, entries_sorted, get-from_entries, get-entries, find, is_sorted}
use Rattle.std.specs.FinMap.Entries.{below_all}
use Rattle.cf_base.proofs.Maps.{equal_maps}

first : (a b : Bool) → T (a && b) → T a
first true b p = tt
first false b p = p

second : (a b : Bool) → T (a && b) → T b
second true b p = p
second false b p = absurd p

not_eq : (r : Ordering) → T (is_lt r) → is_eq r ≡ false
not_eq Less p = refl
not_eq Equal p = absurd p
not_eq Greater p = absurd p

module _ {V : Type 0} where
  not_found : (k : ℕ) (es : List (ℕ × V)) → T (below_all nat_cmp k es) → find nat_cmp k es ≡ None
  not_found k [] h = refl
  not_found k (e ∷ es) h = ap (λ b. cond b (Some e.1) (find nat_cmp k es)) (not_eq (nat_cmp k e.0) (first _ _ h)) ∙ not_found k es (second _ _ h)

  from_entries-entries : (m : FinMap nat_cmp V) → from_entries {R = nat_cmp} (entries m) ≡ m
  from_entries-entries m = equal_maps _ _ (λ q. get-from_entries nat_cmp_total (entries m) q ∙ sym (get-entries m q))

  module _ (P : FinMap nat_cmp V → Type 0) (base : P empty) (step : (m : FinMap nat_cmp V) (h : ℕ) (x : V) → get m h ≡ None → P m → P (insert m h x)) where
    over_entries : (es : List (ℕ × V)) → T (is_sorted nat_cmp es) → P (from_entries {R = nat_cmp} es)
    over_entries [] s = base
    over_entries (e ∷ es) s = step (from_entries es) e.0 e.1 (get-from_entries nat_cmp_total es e.0 ∙ not_found e.0 es (first _ _ s))
        (over_entries es (second _ _ s))

    pub map_induction : (m : FinMap nat_cmp V) → P m
    map_induction m = subst P (from_entries-entries m) (over_entries (entries m) (entries_sorted m))
