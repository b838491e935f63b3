-- If every bound is 1, the figures of a sound arrangement (objects and pages of each class, and totals) are those of `AtOne`, computed from the objects
-- without addresses. Two maps of objects with equal counts (`CountAlike`) have equal figures, and functions and tests that agree give equal lists of lines.
use Rattle.std.proofs.Common.{◌≡◌, ℕ, zero, suc, ◌+◌, ◌-◌, ◌*◌, ◌%◌, ◌<◌, ◌≤◌, Bool, true, false, ◌∷◌, length, map, arith, sym, ◌∙◌, ap, refl, subst, cond, filter, nat_eq}
use Rattle.std.specs.List.{range_with_len}
use Rattle.std.proofs.lemmas.Nat.{mod-mul-add}
use Rattle.std.proofs.Math.Nat.{mul-mod_left}
use Rattle.cf_base.proofs.Ranges.{one}
use Rattle.page_model.specs.Held.{Held, Objects, objects}
use Rattle.page_model.specs.Paging.{Paging, IsPaging, EveryBoundIsOne, classes, slot_words, slots_of, class_for}
use Rattle.page_model.specs.Counts.{LieOn, ceil_div}
use Rattle.page_model.specs.Figures.{figures_of, totals_of}
use Rattle.page_model.specs.Arrangement.{live, pages_of_class, not_full_pages, pages_needed, pages_needed_with, IsSound}
use Rattle.cf_base.proofs.Tests.{eq_no, eq_yes}
use Rattle.page_model.proofs.CallerLemmas.{slots_some, sound_stand, can_hold_one, used_at_one, sum_same}
use Rattle.script_laws.specs.AtOne.{figures_at_one, part_pages, totals_at_one}
use Rattle.cf_base.proofs.Renaming.{CountAlike}

divides : (n m : ℕ) → n % m ≡ 0 → part_pages n m ≡ 0
divides n m is = (let e = eq_yes (n % m) 0 is in rw e)

leaves : (n m : ℕ) → 0 < n % m → part_pages n m ≡ 1
leaves n m some = (let e = eq_no (n % m) 0 (λ is. omega arith) in rw e)

-- n objects on pages of m slots, with at most one page partly full: q, how many are, is `part_pages n m`
part_is : (h n m q : ℕ) → 0 < m → LieOn h n m 1 q → q ≡ part_pages n m
part_is h n m zero pos s =
    let e : h - 0 ≡ h = omega arith in
    let low : h * m + 0 ≤ n = rw e at s.least in
    let high : n ≤ h * m + 0 * (m - 1) = rw e at s.most in
    let is : n ≡ h * m = omega arith in
    sym (divides n m (ap (λ k. k % m) is ∙ mul-mod_left h m))
part_is zero n m (suc zero) pos s = absurd (let w : 1 ≤ 0 = s.within in omega arith)
part_is (suc h) n m (suc zero) pos s =
    let e : suc h - 1 ≡ h = omega arith in
    let low : h * m + 1 ≤ n = rw e at s.least in
    let high : n ≤ h * m + 1 * (m - 1) = rw e at s.most in
    let is : n ≡ h * m + (n - h * m) = omega arith in
    let rest : n % m ≡ n - h * m = ap (λ k. k % m) is ∙ mod-mul-add h m (n - h * m) (omega arith) in
    sym (leaves n m (omega arith))
part_is h n m (suc (suc q)) pos s = absurd (omega (arith, s.few))

module _ (p : Paging) (ok : IsPaging p) (ones : EveryBoundIsOne p) (m : Held) (s : IsSound p m) where
  module _ (c : ℕ) (lt : c < classes p) where
    stand_at_one : LieOn (pages_of_class p m c) (live p (objects m) c) (slots_of p c) 1 (not_full_pages p m c)
    stand_at_one = subst (λ k. LieOn (pages_of_class p m c) (live p (objects m) c) (slots_of p c) k (not_full_pages p m c)) (ones c lt) (sound_stand p ok c lt m s)

    home_is : pages_of_class p m c ≡ ceil_div (live p (objects m) c) (slots_of p c)
    home_is = can_hold_one (pages_of_class p m c) (live p (objects m) c) (slots_of p c) (slots_some p ok c lt) (not_full_pages p m c, stand_at_one)

    not_full_is : not_full_pages p m c ≡ part_pages (live p (objects m) c) (slots_of p c)
    not_full_is = part_is _ _ _ _ (slots_some p ok c lt) stand_at_one

    -- the figures of a class are counted from its objects
    pub figures_are : figures_of p m c ≡ figures_at_one p (objects m) c
    figures_are = λ i. record { slot_words = slot_words p c; slots = slots_of p c; live = live p (objects m) c; pages = home_is i; not_full = not_full_is i }

  -- the figures of the whole heap are counted from its objects
  pub totals_are : totals_of p m ≡ totals_at_one p (objects m)
  totals_are = ap (λ used. record (totals_of p m) {
    held = 8 * p.page_words * used;
    used = used;
    free = p.pages - used;
    largest =
        cond (nat_eq (p.pages - used) 0) 0 p.page_words;
  }) (used_at_one p ok ones m s)

-- two maps of objects with equal counts and equal sums over their bytes (`CountAlike`) have equal figures
module _ (p : Paging) (m n : Objects) (a : CountAlike m n) where
  pub live_alike : (c : ℕ) → live p n c ≡ live p m c
  unfolding live
  live_alike c = a.sums (λ v. one (nat_eq (class_for p (length v)) c))

  pub needed_alike : pages_needed p n ≡ pages_needed p m
  unfolding pages_needed
  needed_alike = sum_same _ _ (range_with_len 0 (classes p)) (λ c. ap (λ k. ceil_div k (slots_of p c)) (live_alike c))

  pub needed_with_alike : (bytes : ℕ) → pages_needed_with p n bytes ≡ pages_needed_with p m bytes
  unfolding pages_needed_with
  needed_with_alike bytes = sum_same _ _ (range_with_len 0 (classes p))
      (λ c. ap (λ k. ceil_div (k + one (nat_eq (class_for p bytes) c)) (slots_of p c)) (live_alike c))

  pub figures_alike : (c : ℕ) → figures_at_one p n c ≡ figures_at_one p m c
  figures_alike c = ap (λ k. record (figures_at_one p m c) { live = k; pages = ceil_div k (slots_of p c); not_full = part_pages k (slots_of p c) })
      (live_alike c)

-- two functions that agree on a range give the same list for the numbers that pass two tests that agree
module _ {X : Type 0} (f g : ℕ → X) (t u : ℕ → Bool) where
  pub said_alike : (a n : ℕ) → ((d : ℕ) → d < a + n → f d ≡ g d) → ((d : ℕ) → t d ≡ u d)
      → map f (filter t (range_with_len a n)) ≡ map g (filter u (range_with_len a n))
  said_alike a zero same test = refl
  said_alike a (suc n) same test = go (t a) (u a) (test a) (said_alike (a + 1) n (λ d lt. same d (omega arith)) test)
    where
      go : (x y : Bool) → x ≡ y → map f (filter t (range_with_len (a + 1) n)) ≡ map g (filter u (range_with_len (a + 1) n))
          → map f (cond x (a ∷ filter t (range_with_len (a + 1) n)) (filter t (range_with_len (a + 1) n))) ≡ map g
          (cond y (a ∷ filter u (range_with_len (a + 1) n)) (filter u (range_with_len (a + 1) n)))
      go true true e rest = λ i. same a (omega arith) i ∷ rest i
      go true false e rest = absurd (let z : true ≡ false = e in cc)
      go false true e rest = absurd (let z : false ≡ true = e in cc)
      go false false e rest = rest
