-- The pages of a class before and after a call: one more is opened only if all pages of the class are full; and if the class has at most the pages of its
-- bound, no free of its objects must move another. Also a lemma on sums of which one term is less.
use Rattle.std.proofs.Common.{◌≡◌, ◌≢◌, ℕ, zero, suc, ◌+◌, ◌-◌, ◌*◌, ◌<◌, ◌≤◌, Some, arith, ap, inl, inr}
use Rattle.std.specs.Prelude.{◌⊎◌, nat_lt, sum_by}
use Rattle.std.specs.List.{range_with_len}
use Rattle.std.proofs.lemmas.Bool.{cases_eq, cases_lt}
use Rattle.std.proofs.lemmas.List.Sums.{sum_by-cons}
use Rattle.std.proofs.lemmas.Nat.{le-div}
use Rattle.cf_base.proofs.Ranges.{one, sum_changed, sum_le}
use Rattle.page_model.specs.Arrangement.{IsSound, class_at, count_on, live, not_full_pages, objects_on, pages_of_class}
use Rattle.page_model.specs.Counts.{LieOn, ceil_div}
use Rattle.std.specs.FinMap.{get}
use Rattle.page_model.specs.Held.{Held, Placed, objects}
use Rattle.page_model.specs.Steps.{MustMove}
use Rattle.page_model.specs.Paging.{IsPaging, Paging, bound_of, classes, page_of, slots_of}
use Rattle.page_model.proofs.CallerLemmas.{less_counts, not_less_counts_none, one_le, part_empty, part_full, part_over, slots_some, sound_stand}
use Rattle.page_model.proofs.Counting.{here}

one_grows : (a b : ℕ) → a ≤ b → one (nat_lt 0 a) ≤ one (nat_lt 0 b)
one_grows a b le = elim (cases_lt 0 a) [
  | inl lt ↦ (let x = less_counts 0 a lt in let y = less_counts 0 b (omega arith) in omega arith)
  | inr none ↦ (let x = not_less_counts_none 0 a none in omega arith)
]

-- no more objects on each page, no more pages
pub no_more_pages : (p : Paging) (old new : Held) (c : ℕ) → ((g : ℕ) → objects_on p new c g ≤ objects_on p old c g)
    → pages_of_class p new c ≤ pages_of_class p old c
unfolding pages_of_class
no_more_pages p old new c le = sum_le (λ g. one (nat_lt 0 (objects_on p new c g))) (λ g. one (nat_lt 0 (objects_on p old c g))) 0 p.pages
    (λ g l h. one_grows (objects_on p new c g) (objects_on p old c g) (le g))

-- if only one page's count of the class changes, the pages of the class change as it does
pages_changed : (p : Paging) (old new : Held) (c page : ℕ) → page < p.pages → ((g : ℕ) → g ≢ page → objects_on p new c g ≡ objects_on p old c g)
    → pages_of_class p new c + one (nat_lt 0 (objects_on p old c page)) ≡ pages_of_class p old c + one (nat_lt 0 (objects_on p new c page))
unfolding pages_of_class
pages_changed p old new c page within same = sum_changed (λ g. one (nat_lt 0 (objects_on p new c g))) (λ g. one (nat_lt 0 (objects_on p old c g))) 0 p.pages page
    (omega arith) (omega arith) (λ g l h ne. ap (λ n. one (nat_lt 0 n)) (same g ne))

-- h full pages and one object more
pub full_next : (h n m k q t : ℕ) → 0 < m → LieOn h n m k q → q ≡ 0 → n + 1 ≤ t → h + 1 ≤ ceil_div t m
full_next h n m k q t pos st none le =
    let most : n ≤ (h - 0) * m + 0 * (m - 1) = rw none at st.most in
    let least : (h - 0) * m + 0 ≤ n = rw none at st.least in
    let e : h - 0 ≡ h = omega arith in
    let least' : h * m + 0 ≤ n = rw e at least in
    le-div (h + 1) (t + (m - 1)) m pos (omega arith)

module _ (p : Paging) (ok : IsPaging p) (m : Held) (s : IsSound p m) (c : ℕ) (lt : c < classes p) where
  -- a page is opened only if all pages of the class are full, so the pages stay within those that `most` objects fill
  pub opened : (page : ℕ) → page < p.pages → (new : Held) → ((g : ℕ) → g ≢ page → objects_on p new c g ≡ objects_on p m c g)
      → ((0 < objects_on p m c page) × (objects_on p m c page < slots_of p c)) ⊎ ((not_full_pages p m c ≡ 0) × (count_on p m page ≡ 0))
      → (most : ℕ) → live p (objects m) c + 1 ≤ most → pages_of_class p m c ≤ ceil_div most (slots_of p c)
      → pages_of_class p new c ≤ ceil_div most (slots_of p c)
  opened page within new same choice most le before =
      let change = pages_changed p m new c page within same in
      let few = one_le (nat_lt 0 (objects_on p new c page)) in
      elim choice [
        | inl (some, less) ↦ (let y = less_counts 0 (objects_on p m c page) some in omega arith)
        | inr (none, bare) ↦ (
            let next = full_next (pages_of_class p m c) (live p (objects m) c) (slots_of p c) (bound_of p c) (not_full_pages p m c) most (slots_some p ok c lt)
            (sound_stand p ok c lt m s) none le in
            omega arith)
      ]

  -- if no slot is left, the objects fill their pages
  pub full_now : (most : ℕ) → not_full_pages p m c ≡ 0 → live p (objects m) c + 1 ≤ most → pages_of_class p m c + 1 ≤ ceil_div most (slots_of p c)
  full_now most none le =
      full_next (pages_of_class p m c) (live p (objects m) c) (slots_of p c) (bound_of p c) (not_full_pages p m c) most (slots_some p ok c lt)
      (sound_stand p ok c lt m s) none le

-- two sums over a range: each term is at most the other's, and one is less by at least t
pub sum_less : (f g : ℕ → ℕ) (t a n c : ℕ) → a ≤ c → c < a + n → ((d : ℕ) → a ≤ d → d < a + n → f d ≤ g d) → f c + t ≤ g c
    → sum_by f (range_with_len a n) + t ≤ sum_by g (range_with_len a n)
sum_less f g t a zero c low high le less = absurd (omega arith)
sum_less f g t a (suc n) c low high le less =
    let x = sum_by-cons f a (range_with_len (a + 1) n) in
    let y = sum_by-cons g a (range_with_len (a + 1) n) in
    elim (cases_eq a c) [
      | inl is ↦ (
          let u : f a ≡ f c = ap f is in let v : g a ≡ g c = ap g is in
          let rest = sum_le f g (a + 1) n (λ d l h. le d (omega arith) (omega arith)) in
          omega arith)
      | inr ne ↦ (
          let here = le a (omega arith) (omega arith) in
          let rest = sum_less f g t (a + 1) n c (omega arith) (omega arith) (λ d l h. le d (omega arith) (omega arith)) less in
          omega arith)
    ]

-- a full page is not among the partly full ones, so a class with one has more pages than partly full ones
pub more_than_partly_full : (p : Paging) (m : Held) (c page : ℕ) → page < p.pages → 0 < objects_on p m c page → slots_of p c ≤ objects_on p m c page
    → not_full_pages p m c + 1 ≤ pages_of_class p m c
unfolding pages_of_class not_full_pages
more_than_partly_full p m c page within some full =
    sum_less (λ g. one (part_full (objects_on p m c g) (slots_of p c))) (λ g. one (nat_lt 0 (objects_on p m c g))) 1 0 p.pages page (omega arith) (omega arith)
    (λ g _ h. elim (cases_lt 0 (objects_on p m c g)) [
      | inl lt ↦ (let a = less_counts 0 (objects_on p m c g) lt in let b = one_le (part_full (objects_on p m c g) (slots_of p c)) in omega arith)
      | inr none ↦ (let b = part_empty (objects_on p m c g) (slots_of p c) (omega arith) in omega arith)
    ])
    (let a = less_counts 0 (objects_on p m c page) some in let b = part_over (objects_on p m c page) (slots_of p c) full in omega arith)

-- if a class has at most the pages of its bound, no free of its objects must move another
pub none_must_move : (p : Paging) → IsPaging p → (m : Held) → IsSound p m → (h : ℕ) (x : Placed) → get m h ≡ Some x
    → pages_of_class p m (class_at p x) ≤ bound_of p (class_at p x) → ¬ MustMove p m x
none_must_move p ok m s h x there few must =
    let slot = s.slots h x there in
    let some = here p m h x there in
    let full = must.full in
    let many = must.many in
    let more = more_than_partly_full p m (class_at p x) (page_of p x.place) slot.page some (omega arith) in
    omega arith
