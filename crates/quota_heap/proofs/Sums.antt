-- For the sum of the tasks' quotas and that of their pages: a sum over a list of which one element changes, two sums compared element by element, and one term
-- compared with its sum.
use Rattle.std.proofs.Common.{◌≡◌, ℕ, zero, suc, ◌+◌, ◌<◌, ◌≤◌, List, [], ◌∷◌, set, Some, arith, ap, refl, sym}
use Rattle.std.specs.Prelude.{slice_get, sum_by}
use Rattle.std.proofs.lemmas.List.Sums.{sum_by-cons}

-- the sum of f over a list whose element i becomes y
pub sum_set : {X : Type 0} (f : X → ℕ) (xs : List X) (i : ℕ) (x y : X) → slice_get xs i ≡ Some x → sum_by f (set xs i y) + f x ≡ sum_by f xs + f y
sum_set f [] i x y e = absurd (let z : Some x ≡ slice_get [] i = sym e in cc)
sum_set f (w ∷ xs) zero x y e =
    let is : w ≡ x = (let z : Some w ≡ Some x = e in cc) in
    let a = sum_by-cons f w xs in
    let b = sum_by-cons f y xs in
    let c = ap f is in
    omega arith
sum_set f (w ∷ xs) (suc i) x y e =
    let a = sum_by-cons f w xs in
    let b = sum_by-cons f w (set xs i y) in
    let rest = sum_set f xs i x y e in
    omega arith

-- if f is at most g at each element, so is the sum; if f is also less than g at one element, the sum is less
pub sum_below : {X : Type 0} (f g : X → ℕ) (xs : List X) → ((i : ℕ) (x : X) → slice_get xs i ≡ Some x → f x ≤ g x) → sum_by f xs ≤ sum_by g xs
sum_below f g [] le = omega arith
sum_below f g (w ∷ xs) le =
    let a = sum_by-cons f w xs in
    let b = sum_by-cons g w xs in
    let here = le 0 w refl in
    let rest = sum_below f g xs (λ i x e. le (suc i) x e) in
    omega arith

pub sum_less : {X : Type 0} (f g : X → ℕ) (xs : List X) (i : ℕ) (x : X) → slice_get xs i ≡ Some x
    → ((j : ℕ) (y : X) → slice_get xs j ≡ Some y → f y ≤ g y) → f x < g x → sum_by f xs < sum_by g xs
sum_less f g [] i x e le lt = absurd (let z : Some x ≡ slice_get [] i = sym e in cc)
sum_less f g (w ∷ xs) zero x e le lt =
    let is : w ≡ x = (let z : Some w ≡ Some x = e in cc) in
    let a = sum_by-cons f w xs in
    let b = sum_by-cons g w xs in
    let c = ap f is in
    let d = ap g is in
    let rest = sum_below f g xs (λ j y e. le (suc j) y e) in
    omega arith
sum_less f g (w ∷ xs) (suc i) x e le lt =
    let a = sum_by-cons f w xs in
    let b = sum_by-cons g w xs in
    let here = le 0 w refl in
    let rest = sum_less f g xs i x e (λ j y e. le (suc j) y e) lt in
    omega arith

-- each term is at most the sum
pub sum_has : {X : Type 0} (f : X → ℕ) (xs : List X) (i : ℕ) (x : X) → slice_get xs i ≡ Some x → f x ≤ sum_by f xs
sum_has f [] i x e = absurd (let z : Some x ≡ slice_get [] i = sym e in cc)
sum_has f (w ∷ xs) zero x e =
    let is : w ≡ x = (let z : Some w ≡ Some x = e in cc) in
    let a = sum_by-cons f w xs in
    let c = ap f is in
    omega arith
sum_has f (w ∷ xs) (suc i) x e =
    let a = sum_by-cons f w xs in
    let rest = sum_has f xs i x e in
    omega arith
