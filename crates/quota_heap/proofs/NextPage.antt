-- For `Refusals` and `PartlyFull`: since each class has bound 1, a class has at most one partly full page, and one more object of a task needs one more page if
-- no page of its class is partly full, else none.
use Rattle.std.proofs.Common.{◌≡◌, ℕ, zero, suc, ◌+◌, ◌-◌, ◌*◌, ◌<◌, ◌≤◌, cond, arith, refl, sym, subst, inl, inr}
use Rattle.std.specs.Prelude.{nat_eq}
use Rattle.std.proofs.lemmas.Bool.{cases_eq, cases_lt}
use Rattle.cf_base.proofs.Tests.{eq_no, eq_yes}
use Rattle.cf_base.proofs.Ranges.{sum_changed}
use Rattle.page_model.specs.Arrangement.{IsSound, pages_of_class, live, not_full_pages, pages_needed, pages_needed_with}
use Rattle.page_model.specs.Counts.{CanHold, LieOn, ceil_div}
use Rattle.page_model.specs.Held.{Held, objects}
use Rattle.page_model.specs.Paging.{EveryBoundIsOne, IsPaging, Paging, class_for, classes, slots_of}
use Rattle.page_model.proofs.CallerLemmas.{can_hold_one, slots_some, sound_stand, home_at_one}

-- let n objects be on h pages of m slots, where q pages (0 or 1) are partly full; then h + (1 - q) pages can hold n + 1 objects
one_more : (h n m q : ℕ) → 0 < m → LieOn h n m 1 q → CanHold (h + (1 - q)) (n + 1) m 1
one_more h n m zero pos s =
    let e : h - 0 ≡ h = omega arith in
    let low : h * m + 0 ≤ n = rw e at s.least in
    let high : n ≤ h * m + 0 * (m - 1) = rw e at s.most in
    let f : h + (1 - 0) - 1 ≡ h = omega arith in
    let g : h + (1 - 0) - 0 ≡ suc h = omega arith in
    elim (cases_eq m 1) [
      | inl is ↦ (
        0,
        record {
          few = omega arith;
          within = omega arith;
          least = rw (g, is) (let low' : h * 1 + 0 ≤ n = rw is at low in omega arith);
          most = rw (g, is) (let high' : n ≤ h * 1 + 0 * (1 - 1) = rw is at high in omega arith);
        },
      )
      | inr ne ↦ (1, record { few = omega arith; within = omega arith; least = rw f (omega arith); most = rw f (omega arith) })
    ]
one_more zero n m (suc zero) pos s = absurd (let w : 1 ≤ 0 = s.within in omega arith)
one_more (suc h) n m (suc zero) pos s =
    let e : suc h - 1 ≡ h = omega arith in
    let low : h * m + 1 ≤ n = rw e at s.least in
    let high : n ≤ h * m + 1 * (m - 1) = rw e at s.most in
    let f : suc h + (1 - 1) - 1 ≡ h = omega arith in
    let g : suc h + (1 - 1) - 0 ≡ suc h = omega arith in
    elim (cases_lt (n + 1) (h * m + m)) [
      | inl less ↦ (1, record { few = omega arith; within = omega arith; least = rw f (omega arith); most = rw f (omega arith) })
      | inr all ↦ (0, record { few = omega arith; within = omega arith; least = rw g (omega arith); most = rw g (omega arith) })
    ]
one_more h n m (suc (suc q)) pos s = absurd (omega (arith, s.few))

module _ (p : Paging) (ok : IsPaging p) (ones : EveryBoundIsOne p) (m : Held) (s : IsSound p m) where
  stand : (c : ℕ) → c < classes p → LieOn (pages_of_class p m c) (live p (objects m) c) (slots_of p c) 1 (not_full_pages p m c)
  stand c lt = subst (λ k. LieOn (pages_of_class p m c) (live p (objects m) c) (slots_of p c) k (not_full_pages p m c)) (ones c lt) (sound_stand p ok c lt m s)

  pub not_full_few : (c : ℕ) → c < classes p → not_full_pages p m c ≤ 1
  not_full_few c lt = (stand c lt).few

  pub needed_next : (n : ℕ) → class_for p n < classes p
      → pages_needed_with p (objects m) n ≡ pages_needed p (objects m) + (1 - not_full_pages p m (class_for p n))
  unfolding pages_needed pages_needed_with
  needed_next n fits =
      let c : ℕ = class_for p n in
      let yes = eq_yes (class_for p n) (class_for p n) refl in
      let next = can_hold_one _ _ _ (slots_some p ok (class_for p n) fits)
      (one_more _ _ _ _ (slots_some p ok (class_for p n) fits) (stand (class_for p n) fits)) in
      let at : ceil_div (live p (objects m) (class_for p n) + cond (nat_eq (class_for p n) (class_for p n)) 1 0) (slots_of p (class_for p n))
      ≡ pages_of_class p m (class_for p n) + (1 - not_full_pages p m (class_for p n)) = rw yes (sym next) in
      let was = home_at_one p ok ones m s (class_for p n) fits in
      let sum = sum_changed (λ d. ceil_div (live p (objects m) d + cond (nat_eq (class_for p n) d) 1 0) (slots_of p d))
      (λ d. ceil_div (live p (objects m) d) (slots_of p d)) 0 (classes p) (class_for p n) (omega arith) (omega arith)
      (λ d _ _ ne. (
      let no = eq_no (class_for p n) d (λ e. ne (sym e)) in
      let z : live p (objects m) d + 0 ≡ live p (objects m) d = omega arith in
      rw (no, z) refl)) in
      omega arith
