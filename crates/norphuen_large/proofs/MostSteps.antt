-- For `nph_large_most_malloc` and its like: the steps of a call are at most what a caller in C gets before it.
use Rattle.std.proofs.Common.{◌≡◌, ℕ, Bool, true, false, zero, suc, ◌+◌, ◌-◌, ◌*◌, ◌/◌, ◌%◌, ◌<◌, ◌≤◌, List, [], ◌∷◌, Some, Ok, Err, get_or, length, max, arith, lit<, refl, sym, ◌∙◌, ap, subst, inl, inr}
use Rattle.std.specs.Prelude.{Option, None, cond, if◌then◌else◌, nat_le, nat_eq, sum_by}
use Rattle.std.specs.FinMap.{get}
use Rattle.std.specs.List.{position_or_len, range_with_len}
use Rattle.std.proofs.lemmas.Bool.{cases_lt}
use Rattle.std.proofs.lemmas.List.Sums.{sum_by-cons}
use Rattle.std.proofs.lemmas.Nat.{le-div}
use Rattle.std.proofs.Math.Nat.{div-add-mod}
use Rattle.cf_base.proofs.Tests.{eq_no, le_no, le_yes}
use Rattle.cf_base.specs.Classes.{need, sizes_from}
use Rattle.cf_base.proofs.Sizes.{sizes_from-below, sizes_from-page}
use Rattle.cf_base.specs.declared.kind.Layout.TheVariants.{Words}
use Rattle.page_model.specs.Image.{slot_for}
use Rattle.page_model.specs.Paging.{class_for, paging_of}
use Rattle.cf_base.specs.Settings.{Profile}
use Rattle.cf_base.proofs.Rising.{page_size}
use Rattle.cf_base.specs.declared.kind.Kind.{Kind}
use Rattle.cf_model.specs.Costs.{words_touched}
use Rattle.cf_model.specs.State.{layout_of, paging_in}
use Rattle.page_model.specs.Paging.{Paging}
use Rattle.large_objects.specs.InnerObjects.{part_count, part_length, spine_bytes}
use Rattle.large_objects.specs.Large.{LargeState}
use Rattle.large_objects.specs.LargeCosts.{large_access_steps, large_free_steps, moving_costs, object_access_steps, object_free_steps, parts_access_steps, parts_touched, slots_with}
use Rattle.large_objects.specs.LargeSteps.{part_bytes_in}
use Rattle.large_objects.proofs.MovingCosts.{access_is, few_share, free_is, malloc_is}
use Rattle.norphuen_large.specs.Most.{HasPagesOf, IsMostLargeAccess, IsMostLargeFree, IsMostLargeMalloc, part_of, slot_cap}

-- the first of these sizes that is at least m; 0 if there is none
abbrev chosen : ℕ → List ℕ → ℕ
chosen m sizes = get_or sizes (position_or_len (λ z. nat_le m z) sizes) 0

chosen_next : (m x : ℕ) (xs : List ℕ) (b : Bool) → nat_le m x ≡ b → chosen m (x ∷ xs) ≡ cond b x (chosen m xs)
chosen_next m x xs true e = rw e refl
chosen_next m x xs false e =
    let n = position_or_len (λ z. nat_le m z) xs in
    let next : 1 + n ≡ suc n = omega arith in
    rw e (ap (λ k. get_or (x ∷ xs) k 0) next)

-- it is the least size s, or at most one step above m - 1; and at most the page
record IsFew (s page m n : ℕ) : Type 0 where
  stepped : n ≤ max s ((9 * (m - 1) + 7) / 8)
  paged : n ≤ page

last_few : (s page m : ℕ) → page ≤ s → IsFew s page m (chosen m (page ∷ []))
last_few s page m past = elim (cases_lt page m) [
  | inl small ↦ (let e = chosen_next m page [] false (le_no m page small) in record { stepped = omega (arith, e); paged = omega (arith, e) })
  | inr holds ↦ (let e = chosen_next m page [] true (le_yes m page holds) in record { stepped = omega (arith, e, past); paged = omega (arith, e) })
]

chosen_few : (f s page m : ℕ) → 0 < s → page ≤ s + f → IsFew s page m (chosen m (sizes_from f s page))
chosen_few zero s page m some enough = rw (sizes_from-page zero s page (omega (arith, enough))) (last_few s page m (omega (arith, enough)))
chosen_few (suc f) s page m some enough = elim (cases_lt s page) [
  | inl below ↦ rw (sizes_from-below f s page below) (
      let rest = chosen_few f ((9 * s + 7) / 8) page m (omega (arith, some)) (omega (arith, some, enough)) in
      let a = rest.stepped in let b = rest.paged in elim (cases_lt s m) [
        | inl small ↦ (
            let e = chosen_next m s (sizes_from f ((9 * s + 7) / 8) page) false (le_no m s small) in
            record { stepped = omega (arith, e, a, small); paged = omega (arith, e, b) })
        | inr holds ↦ (
            let e = chosen_next m s (sizes_from f ((9 * s + 7) / 8) page) true (le_yes m s holds) in
            record { stepped = omega (arith, e); paged = omega (arith, e, below) })
      ])
  | inr past ↦ rw (sizes_from-page (suc f) s page past) (last_few s page m past)
]

-- so a slot has at most the words of `slot_cap`
slot_few : (p : Profile) (bounds : List ℕ) (n : ℕ) → slot_for (paging_of p Words bounds) n ≤ slot_cap p.page_words n
unfolding class_for
slot_few p bounds n =
    let few = chosen_few p.page_words 4 p.page_words (need n) (lit< tt) (omega arith) in
    let a = few.stepped in let b = few.paged in
    let e : 1 + (n + 7) / 8 - 1 ≡ (n + 7) / 8 = omega arith in
    omega (arith, a, b, e)

-- each of q slots has at most w words
sum_few : (f : ℕ → ℕ) (w a q : ℕ) → ((i : ℕ) → f i ≤ w) → sum_by f (range_with_len a q) ≤ w * q
sum_few f w a zero each = omega arith
sum_few f w a (suc q) each =
    let x = sum_by-cons f a (range_with_len (a + 1) q) in
    let e = each a in
    let rest = sum_few f w (a + 1) q each in
    let t : w * suc q ≡ w * q + w = omega arith in
    omega (arith, x, e, rest, t)

-- the pages of the heap
words_are : (page_bytes w : ℕ) (s : LargeState) → HasPagesOf page_bytes s → (64 ≤ page_bytes / 8 → page_bytes / 8 ≤ 16384 → w ≡ page_bytes / 8)
    → s.inner.profile.page_words ≡ w
words_are page_bytes w s has is =
    let e = has.words in
    let size = page_size s.inner.profile.page_words has.kept.rules.settings.page_size in
    let low = size.large in let high = size.small in
    e ∙ sym (is (omega (arith, e, low)) (omega (arith, e, high)))

-- of an inner object
one_malloc : (k : ℕ) → moving_costs.malloc k ≤ 17
one_malloc k = by (nat_eq k 1)
  where
    by : (b : Bool) → (if b then 15 else 17) ≤ 17
    by true = omega arith
    by false = omega arith

one_free : (k s : ℕ) → moving_costs.free k s ≤ 20 + s
one_free k s = by (nat_eq k 1)
  where
    by : (b : Bool) → (if b then 16 else 20) + s ≤ 20 + s
    by true = omega arith
    by false = omega arith

-- an object of n bytes in such a heap, whose pages have w words
module _ (page_bytes n w : ℕ) (words : 64 ≤ page_bytes / 8 → page_bytes / 8 ≤ 16384 → w ≡ page_bytes / 8) where
  part_bytes_are : (s : LargeState) → HasPagesOf page_bytes s → part_bytes_in s ≡ part_of w
  part_bytes_are s has = ap part_of (words_are page_bytes w s has words)

  slot_is_few : (s : LargeState) (m : ℕ) → HasPagesOf page_bytes s → slot_for (paging_in s.inner) m ≤ slot_cap w m
  slot_is_few s m has =
      subst (λ (k : Kind). slot_for (paging_of s.inner.profile (layout_of k) s.inner.bounds) m ≤ slot_cap w m) (sym has.kind)
      (subst (λ (k : ℕ). slot_for (paging_of s.inner.profile Words s.inner.bounds) m ≤ slot_cap k m) (words_are page_bytes w s has words)
      (slot_few s.inner.profile s.inner.bounds m))

  -- the object of a free
  freed : (s : LargeState) (h : ℕ) (v : List ℕ) → get s.objects h ≡ Some v → length v ≡ n
      → large_free_steps moving_costs s h ≡ object_free_steps moving_costs (paging_in s.inner) (part_bytes_in s) n
  freed s h v found many = rw (found, large_free_steps) (ap (object_free_steps moving_costs (paging_in s.inner) (part_bytes_in s)) many)

  -- it fits a page
  module _ (short : n ≤ part_of w) where
    pub malloc_short : IsMostLargeMalloc page_bytes n 17
    malloc_short s (Err e) has = omega arith
    malloc_short s (Ok h) has =
        let u = part_bytes_are s has in
        rw (le_yes n (part_bytes_in s) (omega (arith, u, short))) (one_malloc (slots_with (paging_in s.inner) n))

    pub free_short : (top : ℕ) → top ≡ slot_cap w n → IsMostLargeFree page_bytes n (20 + top)
    free_short top top_is s h v has found many =
        let u = part_bytes_are s has in
        let is = freed s h v found many in
        let one : object_free_steps moving_costs (paging_in s.inner) (part_bytes_in s) n ≤ 20 + slot_for (paging_in s.inner) n =
        rw (le_yes n (part_bytes_in s) (omega (arith, u, short))) (one_free (slots_with (paging_in s.inner) n) (slot_for (paging_in s.inner) n)) in
        let few = slot_is_few s n has in
        omega (arith, is, one, few, top_is)

  -- it has `count` parts
  module _ (count : ℕ) (long : part_of w < n) (is : count ≡ part_count (part_of w) n) where
    past : (s : LargeState) → HasPagesOf page_bytes s → part_bytes_in s < n
    past s has = (let u = part_bytes_are s has in omega (arith, u, long))

    counted : (s : LargeState) → HasPagesOf page_bytes s → part_count (part_bytes_in s) n ≡ count
    counted s has = ap (λ (u : ℕ). part_count u n) (part_bytes_are s has) ∙ sym is

    pub malloc_long : IsMostLargeMalloc page_bytes n (19 + 18 * count)
    malloc_long s (Err e) has = omega arith
    malloc_long s (Ok h) has =
        let steps = malloc_is (paging_in s.inner) (part_bytes_in s) n (past s has) in
        let few = few_share s has.kept n (past s has) in
        let q = counted s has in
        omega (arith, steps, few, q)

    pub free_long : (top : ℕ) → top ≡ slot_cap w (4 * count) → IsMostLargeFree page_bytes n (24 + (19 + w) * count + top)
    free_long top top_is s h v has found many =
        let p : Paging = paging_in s.inner in
        let u : ℕ = part_bytes_in s in
        let steps = freed s h v found many ∙ free_is p u n (past s has) in
        let few = few_share s has.kept n (past s has) in
        let q = counted s has in
        let sum = subst (λ (k : ℕ). sum_by (λ i. slot_for p (part_length u n i)) (range_with_len 0 (part_count u n)) ≤ w * k) q
        (sum_few (λ i. slot_for p (part_length u n i)) w 0 (part_count u n) (λ i. (let f = slot_is_few s (part_length u n i) has in omega (arith, f)))) in
        let spine = subst (λ (k : ℕ). slot_for p (spine_bytes u n) ≤ slot_cap w (4 * k)) q (slot_is_few s (spine_bytes u n) has) in
        let t : (19 + w) * count ≡ 19 * count + w * count = omega arith in
        omega (arith, steps, few, q, sum, spine, t, top_is)

-- a read or a write
access_few : (m n at count : ℕ) → 0 < m → 0 < count
    → object_access_steps moving_costs (8 * m) n at count ≤ 5 * ((at + count - 1) / (8 * m) + 1 - at / (8 * m)) + (at % 8 + count + 7) / 8
access_few m n at count some more =
    let u = 8 * m in
    let none : nat_eq count 0 ≡ false = eq_no count 0 (λ z. absurd (omega (arith, z, more))) in
    let words : words_touched at count ≡ (at % 8 + count + 7) / 8 = rw none refl in
    let parts : parts_touched u at count ≡ (at + count - 1) / u + 1 - at / u = rw none refl in
    elim (cases_lt u n) [
      | inl long ↦ (
          let e : object_access_steps moving_costs u n at count ≡ parts_access_steps moving_costs u at count = rw (le_no n u long) refl in
          let is = access_is m u at count some refl in
          omega (arith, e, is, words, parts))
      | inr short ↦ (
          let e : object_access_steps moving_costs u n at count ≡ 2 + words_touched at count = rw (le_yes n u short) refl in
          let d = div-add-mod at u in
          let t : at / u * u ≡ u * (at / u) = omega arith in
          let l = le-div (at / u) (at + count - 1) u (omega (arith, some)) (omega (arith, d, t, more)) in
          omega (arith, e, words, l))
    ]

access_none : (u n at : ℕ) → object_access_steps moving_costs u n at 0 ≤ 2
access_none u n at = elim (cases_lt u n) [
  | inl long ↦ (let e : object_access_steps moving_costs u n at 0 ≡ 0 = rw (le_no n u long) refl in omega (arith, e))
  | inr short ↦ (let e : object_access_steps moving_costs u n at 0 ≡ 2 = rw (le_yes n u short) refl in omega (arith, e))
]

-- what is true of the steps of each access that is done is true of all
accessed : (page_bytes at count most : ℕ) → ((s : LargeState) (n : ℕ) → HasPagesOf page_bytes s → object_access_steps moving_costs (part_bytes_in s) n at count ≤ most)
    → IsMostLargeAccess page_bytes at count most
accessed page_bytes at count most each s p (Err e) has is = omega arith
accessed page_bytes at count most each s p (Ok u) has is = by_object (get s.objects p.number) refl
  where
    by_object : (o : Option (List ℕ)) → get s.objects p.number ≡ o → large_access_steps moving_costs s p count (Ok u) ≤ most
    by_object (Some v) e = rw (e, is, large_access_steps) (each s (length v) has)
    by_object None e = rw (e, large_access_steps) (omega arith)

pub none_most : (page_bytes at : ℕ) → IsMostLargeAccess page_bytes at 0 2
none_most page_bytes at = accessed page_bytes at 0 2 (λ s n has. access_none (part_bytes_in s) n at)

pub access_most : (page_bytes at count w : ℕ) → (64 ≤ page_bytes / 8 → page_bytes / 8 ≤ 16384 → w ≡ page_bytes / 8) → 64 ≤ w → 0 < count
    → IsMostLargeAccess page_bytes at count (5 * ((at + count - 1) / (8 * (w - 1)) + 1 - at / (8 * (w - 1))) + (at % 8 + count + 7) / 8)
access_most page_bytes at count w words least more = accessed page_bytes at count _ (λ s n has.
    subst (λ (k : ℕ). object_access_steps moving_costs (part_of k) n at count ≤ 5 * ((at + count - 1) / (8 * (w - 1)) + 1 - at / (8 * (w - 1))) + (at % 8 + count + 7) / 8)
    (sym (words_are page_bytes w s has words)) (access_few (w - 1) n at count (omega (arith, least)) more))
