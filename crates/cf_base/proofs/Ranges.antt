-- A test's result as a number, 1 or 0 (`one`). Counts and sums over a range: with equal tests or terms, or if the test or a term changes at one number; how
-- many numbers pass; and sums compared with each other (also over any list) and with their terms.
use Rattle.std.proofs.Common.{◌≡◌, ◌≢◌, ℕ, zero, suc, Bool, cond, ◌+◌, ◌-◌, ◌<◌, ◌≤◌, List, [], ◌∷◌, arith, ap, refl, ◌∙◌, inl, inr}
use Rattle.std.specs.Prelude.{count_by, sum_by}
use Rattle.std.specs.List.{range_with_len}
use Rattle.std.proofs.lemmas.List.FromFn.{length-range_with_len}
use Rattle.std.proofs.lemmas.List.Sums.{count_by-le-length, sum_by-cons}
use Rattle.std.proofs.lemmas.Bool.{cases_eq}

-- 1 if the test passes, else 0
abbrev pub one : Bool → ℕ
one b = cond b 1 0

module _ (f g : ℕ → Bool) where
  pub count_same : (a n : ℕ) → ((p : ℕ) → a ≤ p → f p ≡ g p) → count_by f (range_with_len a n) ≡ count_by g (range_with_len a n)
  count_same a zero same = refl
  count_same a (suc n) same =
      let r = range_with_len (a + 1) n in
      let x : count_by f (a ∷ r) ≡ one (f a) + count_by f r = sum_by-cons (λ p. one (f p)) a r in
      let y : count_by g (a ∷ r) ≡ one (g a) + count_by g r = sum_by-cons (λ p. one (g p)) a r in
      let e : one (f a) ≡ one (g a) = ap one (same a (omega arith)) in
      let rest = count_same (a + 1) n (λ p l. same p (omega arith)) in
      omega arith

  pub count_changed : (a n c : ℕ) → a ≤ c → c < a + n → ((p : ℕ) → p ≢ c → f p ≡ g p)
      → count_by f (range_with_len a n) + one (g c) ≡ count_by g (range_with_len a n) + one (f c)
  count_changed a zero c low high same = absurd (omega arith)
  count_changed a (suc n) c low high same =
      let r = range_with_len (a + 1) n in
      let x : count_by f (a ∷ r) ≡ one (f a) + count_by f r = sum_by-cons (λ p. one (f p)) a r in
      let y : count_by g (a ∷ r) ≡ one (g a) + count_by g r = sum_by-cons (λ p. one (g p)) a r in
      elim (cases_eq a c) [
        | inl is ↦ (
            let rest : count_by f r ≡ count_by g r = count_same (a + 1) n (λ p l. same p (omega arith)) in
            let u : one (f a) ≡ one (f c) = ap (λ p. one (f p)) is in
            let v : one (g a) ≡ one (g c) = ap (λ p. one (g p)) is in
            omega arith)
        | inr ne ↦ (
            let rest : count_by f r + one (g c) ≡ count_by g r + one (f c) = count_changed (a + 1) n c (omega arith) (omega arith) same in
            let e : one (f a) ≡ one (g a) = ap one (same a ne) in
            omega arith)
      ]

-- two sums over a range: if all their terms are equal, and if all but the term at c are
module _ (f g : ℕ → ℕ) where
  pub sum_range_same : (a n : ℕ) → ((d : ℕ) → a ≤ d → d < a + n → f d ≡ g d) → sum_by f (range_with_len a n) ≡ sum_by g (range_with_len a n)
  sum_range_same a zero same = refl
  sum_range_same a (suc n) same =
      let x = sum_by-cons f a (range_with_len (a + 1) n) in
      let y = sum_by-cons g a (range_with_len (a + 1) n) in
      let e = same a (omega arith) (omega arith) in
      let rest = sum_range_same (a + 1) n (λ d l h. same d (omega arith) (omega arith)) in
      omega arith

  pub sum_changed : (a n c : ℕ) → a ≤ c → c < a + n → ((d : ℕ) → a ≤ d → d < a + n → d ≢ c → f d ≡ g d)
      → sum_by f (range_with_len a n) + g c ≡ sum_by g (range_with_len a n) + f c
  sum_changed a zero c low high same = absurd (omega arith)
  sum_changed a (suc n) c low high same =
      let x = sum_by-cons f a (range_with_len (a + 1) n) in
      let y = sum_by-cons g a (range_with_len (a + 1) n) in
      elim (cases_eq a c) [
        | inl is ↦ (
            let rest = sum_range_same (a + 1) n (λ d l h. same d (omega arith) (omega arith) (omega arith)) in
            let u : f a ≡ f c = ap f is in let v : g a ≡ g c = ap g is in omega arith)
        | inr ne ↦ (
            let rest = sum_changed (a + 1) n c (omega arith) (omega arith) (λ d l h ne. same d (omega arith) (omega arith) ne) in
            let e = same a (omega arith) (omega arith) ne in omega arith)
      ]

-- at most n of n numbers pass a test
pub count_at_most : (f : ℕ → Bool) (a n : ℕ) → count_by f (range_with_len a n) ≤ n
count_at_most f a n = rw (length-range_with_len a n) at (count_by-le-length f (range_with_len a n))

-- if a number of the range passes, the count isn't 0
pub some_in_range : (f : ℕ → Bool) (a n d : ℕ) → a ≤ d → d < a + n → one (f d) ≡ 1 → 0 < count_by f (range_with_len a n)
some_in_range f a zero d low high is = absurd (omega arith)
some_in_range f a (suc n) d low high is =
    let e : count_by f (a ∷ range_with_len (a + 1) n) ≡ one (f a) + count_by f (range_with_len (a + 1) n) =
    sum_by-cons (λ p. one (f p)) a (range_with_len (a + 1) n) in
    elim (cases_eq a d) [
      | inl at ↦ (let first : one (f a) ≡ one (f d) = ap (λ p. one (f p)) at in omega arith)
      | inr other ↦ (let rest = some_in_range f (a + 1) n d (omega arith) (omega arith) is in omega arith)
    ]

-- the sum over the numbers from a up to n begins with the term of a
pub sum_next : (f : ℕ → ℕ) (a n : ℕ) → a < n → sum_by f (range_with_len a (n - a)) ≡ f a + sum_by f (range_with_len (a + 1) (n - (a + 1)))
sum_next f a n lt =
    let e : n - a ≡ suc (n - (a + 1)) = omega arith in
    ap (λ k. sum_by f (range_with_len a k)) e ∙ sum_by-cons f a (range_with_len (a + 1) (n - (a + 1)))

-- if each term is at most the term of another sum, the sum is at most the other
pub sum_le : (f g : ℕ → ℕ) (a n : ℕ) → ((d : ℕ) → a ≤ d → d < a + n → f d ≤ g d) → sum_by f (range_with_len a n) ≤ sum_by g (range_with_len a n)
sum_le f g a zero le = omega arith
sum_le f g a (suc n) le =
    let x = sum_by-cons f a (range_with_len (a + 1) n) in
    let y = sum_by-cons g a (range_with_len (a + 1) n) in
    let e = le a (omega arith) (omega arith) in
    let rest = sum_le f g (a + 1) n (λ d l h. le d (omega arith) (omega arith)) in
    omega arith

-- a sum is at least each term
pub sum_at_least : (f : ℕ → ℕ) (a n c : ℕ) → a ≤ c → c < a + n → f c ≤ sum_by f (range_with_len a n)
sum_at_least f a zero c low high = absurd (omega arith)
sum_at_least f a (suc n) c low high =
    let x = sum_by-cons f a (range_with_len (a + 1) n) in
    elim (cases_eq a c) [
      | inl is ↦ (let u : f a ≡ f c = ap f is in omega arith)
      | inr ne ↦ (let rest = sum_at_least f (a + 1) n c (omega arith) (omega arith) in omega arith)
    ]

pub sum_grows : {X : Type 0} (f g : X → ℕ) (xs : List X) → ((x : X) → f x ≤ g x) → sum_by f xs ≤ sum_by g xs
sum_grows f g [] le = omega arith
sum_grows f g (x ∷ xs) le = (let a = sum_by-cons f x xs in let b = sum_by-cons g x xs in let c = le x in let d = sum_grows f g xs le in omega arith)
