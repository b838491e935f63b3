-- For proofs about lists of pages or numbers: which numbers are in a list or a range, that none is in it twice, and the list without one number. A list is
-- empty or has a first number. A list of different numbers below n has at most n of them.
use Rattle.std.proofs.Common.{◌≡◌, ◌≢◌, ℕ, zero, suc, true, false, ◌+◌, ◌<◌, ◌≤◌, List, [], ◌∷◌, length, get_or, cond, eqb, arith, refl, sym, ◌∙◌, ap, inl, inr}
use Rattle.std.specs.Prelude.{◌⊎◌, not, nat_eq, ◌||◌}
use Rattle.std.specs.List.{Contains, IsDistinct, AllByRecursion, list_any, range_with_len}
use Rattle.std.proofs.lemmas.Bool.{cases_eq, eq-eqb, true≢false}
use Rattle.std.proofs.lemmas.Bool.Decides.{nat_tests}
use Rattle.std.proofs.lemmas.List.Elements.{All-from_recursion, All-contains}
use Rattle.std.proofs.lemmas.List.FromFn.{get_or-range_with_len, length-range_with_len}
use Rattle.std.proofs.lemmas.Map.Keys.{IsDistinct-head, IsDistinct-tail, IsDistinct-cons}
use Rattle.std.proofs.lemmas.Map.Steps.{length-le_from_distinct_below}
use Rattle.cf_base.specs.Lists.{without_number}

-- a list is empty, or has a first number
pub empty_or_not : (xs : List ℕ) → (xs ≡ []) ⊎ ((x : ℕ) × (rest : List ℕ) × (xs ≡ x ∷ rest))
empty_or_not [] = inl refl
empty_or_not (x ∷ xs) = inr (x, xs, refl)

pub distinct_nil : IsDistinct nat_eq []
unfolding IsDistinct
distinct_nil = tt

module _ (p : ℕ) where
  pub contains_nil : ¬ Contains [] p
  contains_nil h = absurd (let lt : h.0 < 0 = h.1 in omega arith)

  pub contains_head : (xs : List ℕ) → Contains (p ∷ xs) p
  contains_head xs = (0, omega arith, refl)

  pub contains_tail : (q : ℕ) (xs : List ℕ) → Contains xs p → Contains (q ∷ xs) p
  contains_tail q xs h = (suc h.0, (let lt : h.0 < length xs = h.1 in omega arith), h.2)

  contains_at : (q : ℕ) (xs : List ℕ) (k : ℕ) → k < length (q ∷ xs) → get_or (q ∷ xs) k p ≡ p → (p ≡ q) ⊎ Contains xs p
  contains_at q xs zero lt is = inl (sym is)
  contains_at q xs (suc k) lt is = inr (k, omega arith, is)

  pub contains_cases : (q : ℕ) (xs : List ℕ) → Contains (q ∷ xs) p → (p ≡ q) ⊎ Contains xs p
  contains_cases q xs h = contains_at q xs h.0 h.1 h.2

  pub differs : (q : ℕ) → p ≢ q → eqb p q ≡ false
  differs q ne = grind (arith, nat_tests)

  pub distinct_head : (xs : List ℕ) → IsDistinct nat_eq (p ∷ xs) → ¬ Contains xs p
  distinct_head xs d h = (
      let out : eqb p p ≡ false = All-contains (λ q. eqb p q ≡ false) xs p (All-from_recursion (λ q. eqb p q ≡ false) xs (IsDistinct-head eqb p xs d)) h in
      true≢false (sym (eq-eqb p p refl) ∙ out))

  pub distinct_tail : (xs : List ℕ) → IsDistinct nat_eq (p ∷ xs) → IsDistinct nat_eq xs
  distinct_tail xs d = IsDistinct-tail eqb p xs d

  apart_from_all : (xs : List ℕ) → ¬ Contains xs p → AllByRecursion (λ q. eqb p q ≡ false) xs
  apart_from_all [] out = tt
  apart_from_all (x ∷ xs) out =
      (differs x (λ e. out (rw (← e) (contains_head xs))), apart_from_all xs (λ h. out (contains_tail x xs h)))

  pub distinct_cons : (xs : List ℕ) → ¬ Contains xs p → IsDistinct nat_eq xs → IsDistinct nat_eq (p ∷ xs)
  distinct_cons xs out d = IsDistinct-cons eqb p xs (apart_from_all xs out) d

  -- filtering out p keeps the other numbers
  pub without_same : (xs : List ℕ) → without_number p (p ∷ xs) ≡ without_number p xs
  without_same xs = ap (λ b. cond (not b) (p ∷ without_number p xs) (without_number p xs)) (eq-eqb p p refl)

-- a range from 0 on has just the numbers below its length
pub range_below : (n x : ℕ) → Contains (range_with_len 0 n) x → x < n
range_below n x (k, lt, is) =
    let long = length-range_with_len 0 n in
    let at : 0 + k ≡ x = sym (get_or-range_with_len 0 n k x (omega arith)) ∙ is in
    omega arith

pub range_has : (n x : ℕ) → x < n → Contains (range_with_len 0 n) x
range_has n x lt =
    let long = length-range_with_len 0 n in
    (x, omega arith, get_or-range_with_len 0 n x x lt ∙ (let e : 0 + x ≡ x = omega arith in e))

apart_from_range : (a b n : ℕ) → a < b → AllByRecursion (λ q. eqb a q ≡ false) (range_with_len b n)
apart_from_range a b zero lt = tt
apart_from_range a b (suc n) lt = (differs a b (λ e. omega arith), apart_from_range a (b + 1) n (omega arith))

-- no number is in a range twice
pub range_distinct : (a n : ℕ) → IsDistinct nat_eq (range_with_len a n)
unfolding IsDistinct
range_distinct a zero = tt
range_distinct a (suc n) = (apart_from_range a (a + 1) n (omega arith), range_distinct (a + 1) n)

pub distinct_one : (p : ℕ) → IsDistinct nat_eq (p ∷ [])
distinct_one p = distinct_cons p [] (contains_nil p) distinct_nil

pub without_other : (p x : ℕ) (xs : List ℕ) → x ≢ p → without_number p (x ∷ xs) ≡ x ∷ without_number p xs
without_other p x xs ne = ap (λ b. cond (not b) (x ∷ without_number p xs) (without_number p xs)) (differs x p ne)

pub without_absent : (p : ℕ) (xs : List ℕ) → ¬ Contains xs p → without_number p xs ≡ xs
without_absent p [] out = refl
without_absent p (x ∷ xs) out =
    without_other p x xs (λ e. out (rw e (contains_head p xs)))
    ∙ ap (λ ys. x ∷ ys) (without_absent p xs (λ h. out (contains_tail p x xs h)))

pub without_first : (p : ℕ) (xs : List ℕ) → ¬ Contains xs p → without_number p (p ∷ xs) ≡ xs
without_first p xs out = without_same p xs ∙ without_absent p xs out

-- a number in the list without p is in the list and isn't p
pub contains_without : (p q : ℕ) (xs : List ℕ) → Contains (without_number p xs) q → (q ≢ p) × Contains xs q
contains_without p q [] h = absurd (contains_nil q h)
contains_without p q (x ∷ xs) h = elim (cases_eq x p) [
  | inl is ↦ (
      let e : without_number p (x ∷ xs) ≡ without_number p xs = rw is (without_same p xs) in
      let rest = contains_without p q xs (rw e at h) in
      (rest.0, contains_tail q x xs rest.1))
  | inr ne ↦ elim (contains_cases q x (without_number p xs) (rw (without_other p x xs ne) at h)) [
    | inl at ↦ ((λ e. ne (sym at ∙ e)), rw at (contains_head x xs))
    | inr in' ↦ (let rest = contains_without p q xs in' in (rest.0, contains_tail q x xs rest.1))
  ]
]

-- each other number of the list is in the list without p
pub without_contains : (p q : ℕ) (xs : List ℕ) → q ≢ p → Contains xs q → Contains (without_number p xs) q
without_contains p q [] ne h = absurd (contains_nil q h)
without_contains p q (x ∷ xs) ne h = elim (contains_cases q x xs h) [
  | inl at ↦ rw (without_other p x xs (λ e. ne (at ∙ e)), at) (contains_head x (without_number p xs))
  | inr in' ↦ elim (cases_eq x p) [
    | inl is ↦ (let e : without_number p (x ∷ xs) ≡ without_number p xs = rw is (without_same p xs) in rw e (without_contains p q xs ne in'))
    | inr other ↦ rw (without_other p x xs other) (contains_tail q x (without_number p xs) (without_contains p q xs ne in'))
  ]
]

pub distinct_without : (p : ℕ) (xs : List ℕ) → IsDistinct nat_eq xs → IsDistinct nat_eq (without_number p xs)
distinct_without p [] d = d
distinct_without p (x ∷ xs) d = elim (cases_eq x p) [
  | inl is ↦ (let e : without_number p (x ∷ xs) ≡ without_number p xs = rw is (without_same p xs) in rw e (distinct_without p xs (distinct_tail x xs d)))
  | inr ne ↦ rw (without_other p x xs ne) (
      distinct_cons x (without_number p xs) (λ h. distinct_head x xs d (contains_without p x xs h).1) (distinct_without p xs (distinct_tail x xs d)))
]

pub length-without : (p : ℕ) (xs : List ℕ) → IsDistinct nat_eq xs → Contains xs p → length (without_number p xs) + 1 ≡ length xs
length-without p [] d h = absurd (contains_nil p h)
length-without p (x ∷ xs) d h = elim (cases_eq x p) [
  | inl is ↦ (
      let out : ¬ Contains xs p = rw is at (distinct_head x xs d) in
      let e : without_number p (x ∷ xs) ≡ xs = rw is (without_first p xs out) in
      rw e (omega arith))
  | inr ne ↦ elim (contains_cases p x xs h) [
    | inl at ↦ absurd (ne (sym at))
    | inr in' ↦ rw (without_other p x xs ne) (let rest = length-without p xs (distinct_tail x xs d) in' in omega arith)
  ]
]

contains_from_any : (q : ℕ) (xs : List ℕ) → list_any (eqb q) xs ≡ true → Contains xs q
contains_from_any q [] is = absurd (true≢false (sym is))
contains_from_any q (x ∷ xs) is = elim (cases_eq q x) [
  | inl at ↦ rw at (contains_head x xs)
  | inr ne ↦ contains_tail q x xs (contains_from_any q xs (sym (ap (λ b. b || list_any (eqb q) xs) (differs q x ne)) ∙ is))
]

-- a list of different numbers below n has at most n of them
pub length_within : (n : ℕ) (xs : List ℕ) → IsDistinct nat_eq xs → ((q : ℕ) → Contains xs q → q < n) → length xs ≤ n
length_within n xs d below = length-le_from_distinct_below xs n d (λ q is. below q (contains_from_any q xs is))
