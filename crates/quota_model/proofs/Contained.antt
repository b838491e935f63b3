-- For proofs about admission: if a list has each number at most as often as another list, it also has at most as many numbers with any given property.
use Rattle.std.proofs.Common.{◌≡◌, ℕ, Bool, cond, ◌+◌, ◌<◌, ◌≤◌, List, [], ◌∷◌, arith, ap, inl, inr, refl}
use Rattle.std.specs.Prelude.{count_by, nat_eq}
use Rattle.std.proofs.lemmas.Bool.{cases_eq}
use Rattle.cf_base.proofs.Ranges.{one}
use Rattle.cf_base.proofs.Tests.{eq_yes, eq_no}
use Rattle.quota_model.proofs.Ceilings.{count-cons}

-- the list without its first element that equals n
remove_first : ℕ → List ℕ → List ℕ
remove_first n [] = []
remove_first n (x ∷ xs) = cond (nat_eq x n) xs (x ∷ remove_first n xs)

-- the number of times that n occurs in a list
abbrev pub times : ℕ → List ℕ → ℕ
times n xs = count_by (λ m. nat_eq m n) xs

removed : (n : ℕ) (xs : List ℕ) → 0 < times n xs → (f : ℕ → Bool) → count_by f xs ≡ count_by f (remove_first n xs) + one (f n)
unfolding remove_first
removed n [] some f = absurd (omega arith)
removed n (x ∷ xs) some f = elim (cases_eq x n) [
  | inl is ↦ (
      let e = eq_yes x n is in
      let a = count-cons f x xs in
      let b : one (f x) ≡ one (f n) = ap (λ k. one (f k)) is in
      rw e (omega arith))
  | inr ne ↦ (
      let e = eq_no x n ne in
      let a = count-cons f x xs in
      let b = count-cons f x (remove_first n xs) in
      let c = count-cons (λ m. nat_eq m n) x xs in
      let z : one (nat_eq x n) ≡ 0 = rw e in
      let rest = removed n xs (omega arith) f in
      rw e (omega arith))
]

pub contained : (xs ys : List ℕ) → ((n : ℕ) → times n xs ≤ times n ys) → (f : ℕ → Bool) → count_by f xs ≤ count_by f ys
contained [] ys le f = omega arith
contained (n ∷ xs) ys le f =
    let here = le n in
    let first = count-cons (λ m. nat_eq m n) n xs in
    let yes : one (nat_eq n n) ≡ 1 = (let e = eq_yes n n refl in rw e) in
    let taken = removed n ys (omega arith) in
    let rest = contained xs (remove_first n ys) (λ k. (
    let a = le k in
    let b = count-cons (λ m. nat_eq m k) n xs in
    let c = taken (λ m. nat_eq m k) in
    omega arith)) f in
    let a = count-cons f n xs in
    let b = taken f in
    omega arith
