-- Finite maps: the empty map has no values; a function applied to each value keeps the empty map empty, and keeps the number of values; a new key leaves the
-- other values; and if each value is at most a limit, the sum is at most their number times the limit.
use Rattle.std.proofs.Common.{◌≡◌, ◌≢◌, ℕ, ◌+◌, ◌*◌, ◌≤◌, [], Some, None, map, arith, sym, ◌∙◌, ap}
use Rattle.std.specs.Prelude.{sum_by, option_map}
use Rattle.std.proofs.lemmas.List.{nil_from_length}
use Rattle.std.specs.Ordering.{nat_cmp}
use Rattle.std.specs.FinMap.{FinMap, get, get-empty, insert, len, values, empty, len-empty, len-entries}
use Rattle.cf_base.specs.Maps.{map_values}
use Rattle.cf_base.proofs.Maps.{equal_maps, get_inserted, get_insert_other, len_fresh}
use Rattle.cf_base.proofs.MapValues.{get-map_values, map_values-insert}
use Rattle.cf_base.proofs.Sums.{sum_by-inserted}
use Rattle.cf_base.proofs.Induction.{map_induction}

pub no_values : {V : Type 0} → values (empty {X = V} {R = nat_cmp}) ≡ []
no_values {V} = ap (map (λ e. e.1)) (nil_from_length _ (sym (len-entries (empty {X = V} {R = nat_cmp})) ∙ len-empty nat_cmp V))

pub map_values-empty : {X Y : Type 0} (f : X → Y) → map_values f (empty {R = nat_cmp}) ≡ empty {R = nat_cmp}
map_values-empty f = equal_maps _ _ (λ q. get-map_values f (empty {R = nat_cmp}) q ∙ ap (option_map f) (get-empty nat_cmp q) ∙ sym (get-empty nat_cmp q))

-- a function applied to each value keeps the number of values
pub len-map_values : {X Y : Type 0} (f : X → Y) (m : FinMap nat_cmp X) → len (map_values f m) ≡ len m
len-map_values {X} {Y} f = map_induction (λ m. len (map_values f m) ≡ len m)
    (ap len (map_values-empty f) ∙ len-empty nat_cmp Y ∙ sym (len-empty nat_cmp X))
    (λ m h x none ih. (
    let n : get (map_values f m) h ≡ None = get-map_values f m h ∙ ap (option_map f) none in
    let a = len_fresh m h x none in
    let b = len_fresh (map_values f m) h (f x) n in
    let c : len (map_values f (insert m h x)) ≡ len (insert (map_values f m) h (f x)) = ap len (map_values-insert f m h x) in
    omega arith))

-- inserting a new key leaves every other key and its value
pub still : {V : Type 0} (m : FinMap nat_cmp V) (h : ℕ) (x : V) → get m h ≡ None → (q : ℕ) (y : V) → get m q ≡ Some y
    → (q ≢ h) × (get (insert m h x) q ≡ Some y)
still m h x none q y p =
    let ne : q ≢ h = (λ e. (let p' : get m h ≡ Some y = rw e at p in absurd (let z : Some y ≡ None = sym p' ∙ none in cc))) in
    (ne, get_insert_other m h x q ne ∙ p)

-- if each value is at most the limit, their sum is at most the limit times the number of keys
pub sum_at_most : {V : Type 0} (f : V → ℕ) (limit : ℕ) (m : FinMap nat_cmp V) → ((q : ℕ) (v : V) → get m q ≡ Some v → f v ≤ limit)
    → sum_by f (values m) ≤ limit * len m
sum_at_most {V} f limit = map_induction (λ m. ((q : ℕ) (v : V) → get m q ≡ Some v → f v ≤ limit) → sum_by f (values m) ≤ limit * len m)
    (λ _. (let e : sum_by f (values (empty {X = V} {R = nat_cmp})) ≡ 0 = ap (sum_by f) no_values in omega arith))
    (λ m h x none ih each. (
    let a = sum_by-inserted f m h x none in
    let l = len_fresh m h x none in
    let here = each h x (get_inserted m h x) in
    let rest = ih (λ q v e. each q v (still m h x none q v e).1) in
    let t : limit * len (insert m h x) ≡ limit * (len m + 1) = ap (λ n. limit * n) l in
    omega arith))
