-- For `NextSlots` and `PageNumbers`: a list of pages without repeats is as long as the count, over all pages, of those in it. Two tests of membership agree,
-- and so do two of repeats. If each number passes just one of two tests, the counts add up.
use Rattle.std.proofs.Common.{◌≡◌, ℕ, zero, suc, Bool, true, false, ◌+◌, ◌<◌, ◌≤◌, List, [], ◌∷◌, length, arith, refl, sym, ◌∙◌, ap, inl, inr}
use Rattle.std.specs.Prelude.{nat_eq, count_by}
use Rattle.std.specs.List.{Contains, IsDistinct, range_with_len}
use Rattle.std.proofs.lemmas.Bool.{cases_eq, true≢false}
use Rattle.std.proofs.lemmas.List.Sums.{sum_by-cons}
use Rattle.cf_base.proofs.Members.{contains_cases, contains_head, contains_nil, contains_tail, distinct_head, distinct_tail}
use Rattle.cf_base.proofs.Ranges.{one, count_changed}
use Rattle.page_pool.specs.Pool.{HasNoRepeats, is_in_pool}
use Rattle.page_model.proofs.CallerLemmas.{sum_zeros}
use Rattle.page_slots.proofs.Listing.{along}
use Rattle.page_slots.proofs.Pages.{other_free}
use Rattle.page_slots.proofs.TablesAfterTake.{free_head}

-- the test for membership agrees with `Contains`
pub contains_any : (q : ℕ) (xs : List ℕ) → Contains xs q → is_in_pool xs q ≡ true
contains_any q [] h = absurd (contains_nil q h)
contains_any q (x ∷ xs) h = elim (cases_eq q x) [
  | inl is ↦ ap (λ y. is_in_pool (y ∷ xs) q) (sym is) ∙ free_head q xs
  | inr ne ↦ other_free xs x q ne ∙ elim (contains_cases q x xs h) [
    | inl is ↦ absurd (ne is)
    | inr there ↦ contains_any q xs there
  ]
]

pub any_contains : (q : ℕ) (xs : List ℕ) → is_in_pool xs q ≡ true → Contains xs q
any_contains q [] is = absurd (true≢false (sym is))
any_contains q (x ∷ xs) is = elim (cases_eq q x) [
  | inl same ↦ along q (q ∷ xs) (x ∷ xs) (ap (λ y. y ∷ xs) same) (contains_head q xs)
  | inr ne ↦ contains_tail q x xs (any_contains q xs (sym (other_free xs x q ne) ∙ is))
]

pub no_contains : (q : ℕ) (xs : List ℕ) → ¬ Contains xs q → is_in_pool xs q ≡ false
no_contains q xs none = go (is_in_pool xs q) refl
  where
    go : (b : Bool) → is_in_pool xs q ≡ b → is_in_pool xs q ≡ false
    go true e = absurd (none (any_contains q xs e))
    go false e = e

pub contains_no : (q : ℕ) (xs : List ℕ) → is_in_pool xs q ≡ false → ¬ Contains xs q
contains_no q xs e h = true≢false (sym (contains_any q xs h) ∙ e)

pub no_repeats : (xs : List ℕ) → IsDistinct nat_eq xs → HasNoRepeats xs
no_repeats [] d = tt
no_repeats (x ∷ xs) d = (no_contains x xs (distinct_head x xs d), no_repeats xs (distinct_tail x xs d))

tail_free : (x q : ℕ) (xs : List ℕ) → is_in_pool xs q ≡ true → is_in_pool (x ∷ xs) q ≡ true
tail_free x q xs is = elim (cases_eq q x) [
  | inl same ↦ ap (λ y. is_in_pool (y ∷ xs) q) (sym same) ∙ free_head q xs
  | inr ne ↦ other_free xs x q ne ∙ is
]

-- if a list of numbers below n has no repeats, its length is the count of the numbers below n that are in it
pub count_members : (n : ℕ) (xs : List ℕ) → HasNoRepeats xs → ((q : ℕ) → is_in_pool xs q ≡ true → q < n)
    → count_by (is_in_pool xs) (range_with_len 0 n) ≡ length xs
count_members n [] d below = sum_zeros (λ q. one (is_in_pool [] q)) (range_with_len 0 n) (λ _. refl)
count_members n (x ∷ xs) d below =
    let lt : x < n = below x (free_head x xs) in
    let e = count_changed (is_in_pool (x ∷ xs)) (is_in_pool xs) 0 n x (omega arith) (omega arith) (λ q ne. other_free xs x q ne) in
    let a : one (is_in_pool xs x) ≡ 0 = ap one d.0 in
    let b : one (is_in_pool (x ∷ xs) x) ≡ 1 = ap one (free_head x xs) in
    let rest : count_by (is_in_pool xs) (range_with_len 0 n) ≡ length xs = count_members n xs d.1 (λ q is. below q (tail_free x q xs is)) in
    omega arith

-- if exactly one of two tests passes at each number, their counts add up to n
pub count_both : (f g : ℕ → Bool) (a n : ℕ) → ((d : ℕ) → a ≤ d → d < a + n → one (f d) + one (g d) ≡ 1)
    → count_by f (range_with_len a n) + count_by g (range_with_len a n) ≡ n
count_both f g a zero either = refl
count_both f g a (suc n) either =
    let x : count_by f (range_with_len a (suc n)) ≡ one (f a) + count_by f (range_with_len (a + 1) n) =
    sum_by-cons (λ p. one (f p)) a (range_with_len (a + 1) n) in
    let y : count_by g (range_with_len a (suc n)) ≡ one (g a) + count_by g (range_with_len (a + 1) n) =
    sum_by-cons (λ p. one (g p)) a (range_with_len (a + 1) n) in
    let e = either a (omega arith) (omega arith) in
    let rest = count_both f g (a + 1) n (λ d l h. either d (omega arith) (omega arith)) in
    omega arith
