-- For proofs about admission and quotas: counts over longer lists; and the pages that a list of lengths needs, counted by class and rounded up, grow with the
-- list, are 0 for none, and are at most one for each object.
use Rattle.std.proofs.Common.{◌≡◌, ◌≢◌, ℕ, zero, suc, Bool, cond, ◌+◌, ◌-◌, ◌<◌, ◌≤◌, List, [], ◌∷◌, ◌++◌, length, arith, ap, refl, inl, inr}
use Rattle.std.specs.Prelude.{count_by, nat_eq, sum_by}
use Rattle.std.specs.List.{range_with_len}
use Rattle.std.proofs.lemmas.List.Sums.{sum_by-cons, sum_by-append}
use Rattle.std.proofs.lemmas.Bool.{cases_eq}
use Rattle.std.proofs.Math.Nat.{div-zero, div-eq_of_lt, div-lt_iff_lt-mul}
use Rattle.cf_base.proofs.Ranges.{one, sum_grows}
use Rattle.cf_base.proofs.Tests.{eq_no, eq_yes}
use Rattle.page_model.specs.Counts.{ceil_div}
use Rattle.page_model.specs.Paging.{Paging, class_for, classes, slots_of}
pub use Rattle.page_model.proofs.CallerLemmas.{pages_grow, pages_same}
use Rattle.page_model.proofs.CallerLemmas.{sum_plus, sum_same, sum_zeros}
use Rattle.quota_model.specs.Admission.{count_of_class, pages_needed_by}

ceil_nothing : (m : ℕ) → ceil_div 0 m ≡ 0
ceil_nothing zero = div-zero (0 + (0 - 1))
ceil_nothing (suc m) = (let lt : 0 + (suc m - 1) < suc m = omega arith in div-eq_of_lt lt)

ceil_few : (n m : ℕ) → ceil_div n m ≤ n
ceil_few n zero = (let none = div-zero (n + (0 - 1)) in omega arith)
ceil_few n (suc m) = (let lt : ceil_div n (suc m) < n + 1 = (div-lt_iff_lt-mul {k = suc m} {x = n + (suc m - 1)} {y = n + 1} (omega arith)).1 (omega arith) in omega arith)

-- no objects need no pages
pub pages_of_none : (p : Paging) → pages_needed_by p [] ≡ 0
pages_of_none p = sum_zeros (λ c. ceil_div 0 (slots_of p c)) (range_with_len 0 (classes p)) (λ c. ceil_nothing (slots_of p c))

module _ {X : Type 0} (f : X → Bool) where
  pub count-cons : (x : X) (xs : List X) → count_by f (x ∷ xs) ≡ cond (f x) 1 0 + count_by f xs
  count-cons x xs = sum_by-cons (λ y. cond (f y) 1 0) x xs

  pub count-append : (xs ys : List X) → count_by f (xs ++ ys) ≡ count_by f xs + count_by f ys
  count-append xs ys = sum_by-append (λ y. cond (f y) 1 0) xs ys

-- a number x below the range from a on doesn't occur in it; below, each number occurs in a range once at most
missed : (x a n : ℕ) → x < a → count_by (λ c. nat_eq x c) (range_with_len a n) ≡ 0
missed x a zero lt = refl
missed x a (suc n) lt =
    let here = count-cons (λ c. nat_eq x c) a (range_with_len (a + 1) n) in
    let ne : x ≢ a = omega arith in
    let no' : one (nat_eq x a) ≡ 0 = ap one (eq_no x a ne) in
    let rest = missed x (a + 1) n (omega arith) in
    omega arith

once : (x a n : ℕ) → count_by (λ c. nat_eq x c) (range_with_len a n) ≤ 1
once x a zero = omega arith
once x a (suc n) =
    let here = count-cons (λ c. nat_eq x c) a (range_with_len (a + 1) n) in
    elim (cases_eq x a) [
      | inl is ↦ (
          let yes : one (nat_eq x a) ≡ 1 = ap one (eq_yes x a is) in
          let rest = missed x (a + 1) n (omega arith) in
          omega arith)
      | inr ne ↦ (
          let no' : one (nat_eq x a) ≡ 0 = ap one (eq_no x a ne) in
          let rest = once x (a + 1) n in
          omega arith)
    ]

-- the counts of the first n classes sum to at most the number of mallocs
counts_few : (p : Paging) (n : ℕ) (ns : List ℕ) → sum_by (count_of_class p ns) (range_with_len 0 n) ≤ length ns
counts_few p n [] = (let none = sum_zeros (count_of_class p []) (range_with_len 0 n) (λ c. refl) in omega arith)
counts_few p n (m ∷ ms) =
    let split = sum_same (count_of_class p (m ∷ ms)) (λ c. cond (nat_eq (class_for p m) c) 1 0 + count_of_class p ms c) (range_with_len 0 n)
    (λ c. count-cons (λ k. nat_eq (class_for p k) c) m ms) in
    let plus = sum_plus (λ c. cond (nat_eq (class_for p m) c) 1 0) (count_of_class p ms) (range_with_len 0 n) in
    let first = once (class_for p m) 0 n in
    let rest = counts_few p n ms in
    omega arith

-- mallocs need at most a page each
pub pages_few : (p : Paging) (ns : List ℕ) → pages_needed_by p ns ≤ length ns
pages_few p ns =
    let each = sum_grows (λ c. ceil_div (count_of_class p ns c) (slots_of p c)) (count_of_class p ns) (range_with_len 0 (classes p))
    (λ c. ceil_few (count_of_class p ns c) (slots_of p c)) in
    let all = counts_few p (classes p) ns in
    omega arith
