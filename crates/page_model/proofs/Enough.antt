-- For the law `objects_need_no_more_pages`: a sound arrangement uses at least the pages that its objects need, for each class its objects over the slots of a
-- page, rounded up. More objects need no fewer pages; with equal counts by class the pages needed are equal.
use Rattle.std.proofs.Common.{◌≡◌, ℕ, zero, suc, ◌+◌, ◌-◌, ◌*◌, ◌/◌, ◌%◌, ◌<◌, ◌≤◌, arith}
use Rattle.std.proofs.lemmas.Nat.{div-add-mod', le-div, mul-le}
use Rattle.std.proofs.Math.Nat.{div-mul-le_self, div-zero}
use Rattle.cf_base.proofs.Ranges.{sum_grows, sum_le}
use Rattle.page_model.specs.Held.{Held, objects}
use Rattle.page_model.specs.Paging.{Paging, IsPaging, classes, slots_of}
use Rattle.page_model.specs.Counts.{LieOn, ceil_div}
use Rattle.page_model.specs.Arrangement.{live, pages_of_class, used_pages, pages_for, pages_needed, IsSound}
use Rattle.std.specs.List.{range_with_len}
use Rattle.page_model.proofs.Totals.{sum_same}
use Rattle.page_model.proofs.PageCounts.{slots_some, sound_stand}
use Rattle.std.proofs.lemmas.Bool.{cases_lt}
use Rattle.std.proofs.Common.{inl, inr, ap}

-- more objects need no fewer pages
pub ceil_mono : (a b m : ℕ) → a ≤ b → ceil_div a m ≤ ceil_div b m
ceil_mono a b zero le = (let x = div-zero (a + (0 - 1)) in omega arith)
ceil_mono a b (suc m) le =
    let pos : 0 < suc m = omega arith in
    let low = div-mul-le_self (a + (suc m - 1)) (suc m) in
    le-div ((a + (suc m - 1)) / suc m) (b + (suc m - 1)) (suc m) pos (omega arith)

pub pages_grow : (p : Paging) (f g : ℕ → ℕ) → ((c : ℕ) → f c ≤ g c) → pages_for p f ≤ pages_for p g
pages_grow p f g le = sum_grows (λ c. ceil_div (f c) (slots_of p c)) (λ c. ceil_div (g c) (slots_of p c)) (range_with_len 0 (classes p))
    (λ c. ceil_mono (f c) (g c) (slots_of p c) (le c))

pub pages_same : (p : Paging) (f g : ℕ → ℕ) → ((c : ℕ) → f c ≡ g c) → pages_for p f ≡ pages_for p g
pages_same p f g same = sum_same (λ c. ceil_div (f c) (slots_of p c)) (λ c. ceil_div (g c) (slots_of p c)) (range_with_len 0 (classes p))
    (λ c. ap (λ n. ceil_div n (slots_of p c)) (same c))

-- n objects on h pages need at most h pages
enough : (h n m k q : ℕ) → 0 < m → LieOn h n m k q → ceil_div n m ≤ h
enough h n m k q pos s =
    let w = s.within in
    let most = s.most in
    let d : ceil_div n m * m + (n + (m - 1)) % m ≡ n + (m - 1) = div-add-mod' (n + (m - 1)) m in
    let whole : h ≡ (h - q) + q = omega arith in
    let parts : h * m ≡ ((h - q) + q) * m = ap (λ x. x * m) whole in
    let less : q * (m - 1) ≤ q * m = mul-le q (m - 1) q m (omega arith) (omega arith) in
    elim (cases_lt h (ceil_div n m)) [
      | inl over ↦ (let more : (h + 1) * m ≤ ceil_div n m * m = mul-le (h + 1) m (ceil_div n m) m (omega arith) (omega arith) in absurd (omega arith))
      | inr fine ↦ fine
    ]

pub needed_le_used : (p : Paging) (m : Held) → IsPaging p → IsSound p m → pages_needed p (objects m) ≤ used_pages p m
unfolding used_pages pages_needed
needed_le_used p m ok s = sum_le (λ c. ceil_div (live p (objects m) c) (slots_of p c)) (pages_of_class p m) 0 (classes p) (λ c l h.
    enough (pages_of_class p m c) (live p (objects m) c) (slots_of p c) _ _ (slots_some p ok c (omega arith)) (sound_stand p ok c (omega arith) m s))
