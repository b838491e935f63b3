-- For the laws of `room.rt` with every bound 1: a class of n objects, m to a page, uses ⌈n/m⌉ pages, so the pages in use are those that the objects need. It
-- has no slot left if and only if one object more needs more pages than there are.
use Rattle.std.proofs.Common.{◌≡◌, ℕ, zero, suc, ◌+◌, ◌-◌, ◌*◌, ◌<◌, ◌≤◌, List, None, length, arith, sym, ap, refl, subst}
use Rattle.std.specs.Prelude.{◌↔◌, nat_eq}
use Rattle.std.specs.List.{range_with_len}
use Rattle.std.specs.FinMap.{get, insert}
use Rattle.cf_base.proofs.Sums.{sum_by-inserted}
use Rattle.cf_base.proofs.Ranges.{one, sum_changed, sum_range_same}
use Rattle.page_model.specs.Held.{Held, Objects, objects}
use Rattle.page_model.specs.Paging.{Paging, IsPaging, EveryBoundIsOne, classes, slots_of, class_for}
use Rattle.page_model.specs.Counts.{LieOn, CanHold, ceil_div}
use Rattle.page_model.specs.Arrangement.{live, pages_of_class, not_full_pages, used_pages, pages_needed, pages_needed_with, IsSound, LacksRoom}
use Rattle.cf_base.proofs.Tests.{eq_yes, eq_no}
use Rattle.page_model.proofs.Totals.{sum_same}
use Rattle.page_model.proofs.PageCounts.{slots_some, sound_stand, sound_can_hold}
use Rattle.page_model.proofs.PageLaws.{between_multiples, can_hold_one}
use Rattle.page_model.proofs.Lacking.{used_le, none_free, all_taken}

-- one object more takes one page more if and only if all pages are full
next_page : (h n m q : ℕ) → 0 < m → LieOn h n m 1 q → ceil_div (n + 1) m ≡ h + (1 - q)
next_page h n m zero pos s =
    let e : h - 0 ≡ h = omega arith in
    let low : h * m + 0 ≤ n = rw e at s.least in
    let high : n ≤ h * m + 0 * (m - 1) = rw e at s.most in
    between_multiples (n + 1 + (m - 1)) (h + (1 - 0)) m pos (omega arith) (omega arith)
next_page zero n m (suc zero) pos s = absurd (let w : 1 ≤ 0 = s.within in omega arith)
next_page (suc h) n m (suc zero) pos s =
    let e : suc h - 1 ≡ h = omega arith in
    let low : h * m + 1 ≤ n = rw e at s.least in
    let high : n ≤ h * m + 1 * (m - 1) = rw e at s.most in
    between_multiples (n + 1 + (m - 1)) (suc h + (1 - 1)) m pos (omega arith) (omega arith)
next_page h n m (suc (suc q)) pos s = absurd (omega (arith, s.few))

module _ (p : Paging) where
  -- an added object counts in its class
  live-inserted : (objs : Objects) (r : ℕ) (v : List ℕ) (c : ℕ) → get objs r ≡ None
      → live p (insert objs r v) c ≡ live p objs c + one (nat_eq (class_for p (length v)) c)
  unfolding live
  live-inserted objs r v c none = sum_by-inserted (λ v. one (nat_eq (class_for p (length v)) c)) objs r v none

  pub needed_with_is : (objs : Objects) (r : ℕ) (v : List ℕ) → get objs r ≡ None → pages_needed p (insert objs r v) ≡ pages_needed_with p objs (length v)
  unfolding pages_needed pages_needed_with
  needed_with_is objs r v none = sum_same (λ c. ceil_div (live p (insert objs r v) c) (slots_of p c))
      (λ c. ceil_div (live p objs c + one (nat_eq (class_for p (length v)) c)) (slots_of p c)) (range_with_len 0 (classes p))
      (λ c. ap (λ n. ceil_div n (slots_of p c)) (live-inserted objs r v c none))

module _ (p : Paging) (ok : IsPaging p) (ones : EveryBoundIsOne p) (m : Held) (s : IsSound p m) where
  pub home_at_one : (c : ℕ) → c < classes p → pages_of_class p m c ≡ ceil_div (live p (objects m) c) (slots_of p c)
  home_at_one c lt =
      let some = slots_some p ok c lt in
      let one_page : CanHold (pages_of_class p m c) (live p (objects m) c) (slots_of p c) 1 =
      subst (CanHold (pages_of_class p m c) (live p (objects m) c) (slots_of p c)) (ones c lt) (sound_can_hold p ok c lt m s) in
      can_hold_one (pages_of_class p m c) (live p (objects m) c) (slots_of p c) some one_page

  -- the pages in use are exactly those that the objects need by arithmetic
  pub used_at_one : used_pages p m ≡ pages_needed p (objects m)
  unfolding used_pages pages_needed
  used_at_one = sum_range_same (pages_of_class p m) (λ c. ceil_div (live p (objects m) c) (slots_of p c)) 0 (classes p) (λ d _ h. home_at_one d (omega arith))

  module _ (n : ℕ) (fits : class_for p n < classes p) where
    needed_next : pages_needed_with p (objects m) n ≡ used_pages p m + (1 - not_full_pages p m (class_for p n))
    unfolding used_pages pages_needed_with
    needed_next =
        let c : ℕ = class_for p n in
        let one_page : LieOn (pages_of_class p m (class_for p n)) (live p (objects m) (class_for p n)) (slots_of p (class_for p n)) 1
        (not_full_pages p m (class_for p n)) = subst (λ k. LieOn (pages_of_class p m (class_for p n)) (live p (objects m) (class_for p n))
        (slots_of p (class_for p n)) k (not_full_pages p m (class_for p n))) (ones (class_for p n) fits) (sound_stand p ok (class_for p n) fits m s) in
        let next = next_page _ _ _ _ (slots_some p ok (class_for p n) fits) one_page in
        let e = eq_yes (class_for p n) (class_for p n) refl in
        let at : ceil_div (live p (objects m) (class_for p n) + one (nat_eq (class_for p n) (class_for p n))) (slots_of p (class_for p n)) ≡ pages_of_class p m
        (class_for p n) + (1 - not_full_pages p m (class_for p n)) = rw e next in
        let sum = sum_changed (λ d. ceil_div (live p (objects m) d + one (nat_eq (class_for p n) d)) (slots_of p d)) (pages_of_class p m) 0 (classes p)
        (class_for p n) (omega arith) (omega arith)
        (λ d _ h ne. (let f = eq_no (class_for p n) d (λ e. ne (sym e)) in let z : live p (objects m) d + 0 ≡ live p (objects m) d =
        omega arith in rw (f, z) (sym (home_at_one d (omega arith))))) in
        omega arith

    -- no slot is left if and only if the objects with the new one need more pages than there are
    pub lacks_room_at_one : LacksRoom p m (class_for p n) ↔ (p.pages < pages_needed_with p (objects m) n)
    lacks_room_at_one = (
      (λ l. (let e = needed_next in let f = l.full in let u = none_free p m s l.taken in omega arith)),
      (λ more. (let e = needed_next in let u = used_le p m s in record {
        full = omega arith;
        taken = all_taken p m s (omega arith);
      })),
    )
