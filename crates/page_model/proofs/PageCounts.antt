-- In a sound arrangement a class of n objects, m to a page, with at most k partly full pages, has a number of pages that arithmetic allows (`CanHold`): at most
-- ⌊n/m⌋ + k (law `page_counts_of_a_sound_arrangement`). A page has at least one slot, and at most as many objects as slots.
use Rattle.std.proofs.Common.{◌≡◌, ℕ, zero, suc, ◌+◌, ◌-◌, ◌*◌, ◌/◌, ◌%◌, ◌<◌, ◌≤◌, ◌∷◌, arith, sym, ◌∙◌, inl, inr}
use Rattle.std.specs.Prelude.{sum_by, count_by, nat_lt}
use Rattle.std.specs.List.{range_with_len}
use Rattle.std.proofs.lemmas.List.Sums.{sum_by-cons}
use Rattle.std.proofs.lemmas.Bool.{cases_eq, cases_lt}
use Rattle.std.proofs.lemmas.Nat.{div-add-mod'}
use Rattle.std.proofs.Math.Nat.{mod-lt}
use Rattle.cf_base.proofs.Ranges.{one}
use Rattle.page_model.specs.Held.{Held, objects}
use Rattle.page_model.specs.Paging.{Paging, IsPaging, classes, slot_words, slots_of, bound_of}
use Rattle.page_model.specs.Counts.{LieOn, CanHold}
use Rattle.page_model.specs.Arrangement.{objects_on, not_full_pages, pages_of_class, live, IsSound}
use Rattle.page_model.proofs.Counting.{part_full, part_yes, part_empty, part_over, less_counts, not_less_counts_none}
use Rattle.page_model.proofs.PageLaws.{can_hold_bound}
use Rattle.page_model.proofs.Sizes.{slot_fits}
use Rattle.page_model.proofs.Totals.{page_within, live_by_pages, live_is}

-- page p holds `on p` objects, and a page has m slots
module _ (on : ℕ → ℕ) (m : ℕ) (some : 0 < m) where
  -- the number of pages with an object; `part` counts those of them that are not full
  abbrev pub home : ℕ → ℕ → ℕ
  home a n = count_by (λ p. nat_lt 0 (on p)) (range_with_len a n)

  abbrev pub part : ℕ → ℕ → ℕ
  part a n = count_by (λ p. part_full (on p) m) (range_with_len a n)

  -- f of the n pages from a on are full: how many pages have an object, and the least and the greatest number of objects on the n pages
  pub record HasFull (a n f : ℕ) : Type 0 where
    pub all : home a n ≡ f + part a n
    pub least : f * m + part a n ≤ sum_by on (range_with_len a n)
    pub most : sum_by on (range_with_len a n) ≤ f * m + part a n * (m - 1)

  pub stands : (a n : ℕ) → ((p : ℕ) → on p ≤ m) → (f : ℕ) × HasFull a n f
  stands a zero few = (0, record { all = omega arith; least = omega arith; most = omega arith })
  stands a (suc n) few =
      let r = range_with_len (a + 1) n in
      let s = stands (a + 1) n few in
      let all = s.1.all in let least = s.1.least in let most = s.1.most in
      let x : home a (suc n) ≡ one (nat_lt 0 (on a)) + home (a + 1) n = sum_by-cons (λ p. one (nat_lt 0 (on p))) a r in
      let y : part a (suc n) ≡ one (part_full (on a) m) + part (a + 1) n = sum_by-cons (λ p. one (part_full (on p) m)) a r in
      let z : sum_by on (a ∷ r) ≡ on a + sum_by on r = sum_by-cons on a r in
      elim (cases_eq (on a) 0) [
        | inl none ↦ (
            let u = not_less_counts_none 0 (on a) (omega arith) in let v = part_empty (on a) m none in
            (s.0, record { all = omega arith; least = omega arith; most = (let e : part a (suc n) ≡ part (a + 1) n = omega arith in rw (z, e) (omega arith)) }))
        | inr ne ↦ elim (cases_lt (on a) m) [
          | inl less ↦ (
              let u = less_counts 0 (on a) (omega arith) in let v = part_yes (on a) m (omega arith) less in
              let e : part a (suc n) ≡ part (a + 1) n + 1 = omega arith in
              (s.0, record { all = omega arith; least = omega arith; most = rw (z, e) (omega arith) }))
          | inr full ↦ (
              let u = less_counts 0 (on a) (omega arith) in let v = part_over (on a) m full in
              let e : part a (suc n) ≡ part (a + 1) n = omega arith in
              let k : on a ≡ m = omega (arith, few a) in
              (s.0 + 1, record { all = omega arith; least = omega arith; most = rw (z, e) (omega arith) }))
        ]
      ]

stand_from : (home part full total live m k : ℕ) → home ≡ full + part → full * m + part ≤ total → total ≤ full * m + part * (m - 1) → total ≡ live → part ≤ k
    → LieOn home live m k part
stand_from home part full total live m k all least most is few =
    let e : home - part ≡ full = omega arith in
    record { few = few; within = omega arith; least = rw (e, ← is) least; most = rw (e, ← is) most }

-- a size of at most a page has a slot on a page
pub some_slots : (P size : ℕ) → 0 < size → size ≤ P → 0 < P / size
some_slots P size pos fits = elim (cases_lt 0 (P / size)) [
  | inl lt ↦ lt
  | inr under ↦ absurd (
      let e = div-add-mod' P size in
      let r = mod-lt P pos in
      let z : P / size ≡ 0 = omega arith in
      let f : 0 * size + P % size ≡ P = rw z at e in
      omega arith)
]

module _ (p : Paging) (ok : IsPaging p) (c : ℕ) (lt : c < classes p) where
  pub size_some : 0 < slot_words p c
  size_some = (let l = ok.sized.least c lt in omega arith)

  pub slots_some : 0 < slots_of p c
  slots_some = some_slots p.page_words (slot_words p c) size_some (slot_fits p ok c lt)

  module _ (m : Held) (s : IsSound p m) where
    pub within : (page : ℕ) → objects_on p m c page ≤ slots_of p c
    within page = page_within p c page m size_some s

    -- the pages of a class are its full ones and its partly full ones
    pub sound_stand : LieOn (pages_of_class p m c) (live p (objects m) c) (slots_of p c) (bound_of p c) (not_full_pages p m c)
    unfolding pages_of_class not_full_pages
    sound_stand =
        let st = stands (objects_on p m c) (slots_of p c) slots_some 0 p.pages within in
        let count = live_by_pages p c m (λ q x f. (s.slots q x f).page) ∙ sym (live_is p c m) in
        stand_from _ _ st.0 _ _ (slots_of p c) (bound_of p c) st.1.all st.1.least st.1.most count (s.few_not_full c lt)

    pub sound_can_hold : CanHold (pages_of_class p m c) (live p (objects m) c) (slots_of p c) (bound_of p c)
    sound_can_hold = (not_full_pages p m c, sound_stand)

    -- at most the pages that its objects fill, plus its bound
    pub sound_few : pages_of_class p m c ≤ live p (objects m) c / slots_of p c + bound_of p c
    sound_few = can_hold_bound (pages_of_class p m c) (live p (objects m) c) (slots_of p c) (bound_of p c) slots_some sound_can_hold
