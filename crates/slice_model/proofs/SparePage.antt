-- For `no_malloc_is_busy_with_a_spare_page`: the job's placeholder, counted as one more object, raises the number of pages that the objects need by at most
-- one. For this and for `PendingTime`: quotients and sums that grow by one, or by at most one.
use Rattle.std.proofs.Common.{◌≡◌, ℕ, zero, suc, ◌+◌, ◌-◌, ◌*◌, ◌/◌, ◌%◌, ◌<◌, ◌≤◌, Option, Some, None, length, arith, ◌∙◌, ap, subst, inl, inr}
use Rattle.std.specs.Prelude.{nat_eq, sum_by}
use Rattle.std.specs.List.{range_with_len}
use Rattle.std.proofs.lemmas.Bool.{cases_eq}
use Rattle.std.proofs.lemmas.List.Sums.{sum_by-cons}
use Rattle.std.proofs.lemmas.Nat.{div-add-mod', div-mul-add}
use Rattle.std.proofs.Math.Nat.{mod-lt}
use Rattle.std.specs.FinMap.{get, insert}
use Rattle.cf_base.proofs.MapValues.{map_values-insert}
use Rattle.cf_base.proofs.Ranges.{one, sum_le}
use Rattle.cf_base.proofs.Tests.{eq_no, eq_yes}
use Rattle.page_model.specs.Arrangement.{live, pages_needed_with}
use Rattle.page_model.specs.Counts.{ceil_div}
use Rattle.page_model.specs.Held.{Held, Objects, Placed, objects}
use Rattle.page_model.specs.Paging.{IsPaging, Paging, class_for, classes, slots_of}
use Rattle.page_model.proofs.CallerLemmas.{bytes_missing, ceil_mono, live_added, slots_some}
use Rattle.slice_model.specs.State.{Plan, IsPlan, JobSlot, with_slot, placeholder}

-- m more objects need exactly one more page of m slots
pub ceil_more : (x m : ℕ) → 0 < m → ceil_div (x + m) m ≡ ceil_div x m + 1
ceil_more x m pos =
    let e : (x + (m - 1)) / m * m + (x + (m - 1)) % m ≡ x + (m - 1) = div-add-mod' (x + (m - 1)) m in
    let lt : (x + (m - 1)) % m < m = mod-lt (x + (m - 1)) pos in
    let b : x + m + (m - 1) ≡ ((x + (m - 1)) / m + 1) * m + (x + (m - 1)) % m = omega arith in
    ap (λ z. z / m) b ∙ div-mul-add ((x + (m - 1)) / m + 1) m ((x + (m - 1)) % m) lt

pub ceil_one_more : (x m : ℕ) → 0 < m → ceil_div (x + 1) m ≤ ceil_div x m + 1
ceil_one_more x m pos =
    let y = ceil_more x m pos in
    let le : ceil_div (x + 1) m ≤ ceil_div (x + m) m = ceil_mono (x + 1) (x + m) m (omega arith) in
    omega arith

-- a sum grows by at most one if one term does and the others don't
pub sum_one_more : (f g : ℕ → ℕ) (c a n : ℕ) → ((d : ℕ) → a ≤ d → d < a + n → g d ≤ f d + one (nat_eq c d))
    → sum_by g (range_with_len a n) ≤ sum_by f (range_with_len a n) + 1
sum_one_more f g c a zero le = omega arith
sum_one_more f g c a (suc n) le =
    let x = sum_by-cons f a (range_with_len (a + 1) n) in
    let y = sum_by-cons g a (range_with_len (a + 1) n) in
    elim (cases_eq c a) [
      | inl is ↦ (
          let e : g a ≤ f a + 1 = subst (λ b. g a ≤ f a + one b) (eq_yes c a is) (le a (omega arith) (omega arith)) in
          let rest : sum_by g (range_with_len (a + 1) n) ≤ sum_by f (range_with_len (a + 1) n) = sum_le g f (a + 1) n
          (λ d l h. (let k : g d ≤ f d + 0 = subst (λ b. g d ≤ f d + one b) (eq_no c d (λ same. absurd (omega arith))) (le d (omega arith) (omega arith)) in
          omega arith)) in
          omega arith)
      | inr ne ↦ (
          let e : g a ≤ f a + 0 = subst (λ b. g a ≤ f a + one b) (eq_no c a ne) (le a (omega arith) (omega arith)) in
          let rest = sum_one_more f g c (a + 1) n (λ d l h. le d (omega arith) (omega arith)) in
          omega arith)
    ]

needed_one_more : (p : Paging) → IsPaging p → (o u : Objects) (n k : ℕ) → ((c : ℕ) → live p u c ≡ live p o c + one (nat_eq k c))
    → pages_needed_with p u n ≤ pages_needed_with p o n + 1
unfolding pages_needed_with
needed_one_more p ok o u n k is = sum_one_more (λ c. ceil_div (live p o c + one (nat_eq (class_for p n) c)) (slots_of p c))
    (λ c. ceil_div (live p u c + one (nat_eq (class_for p n) c)) (slots_of p c)) k 0 (classes p)
    (λ d _ lt. elim (cases_eq k d) [
      | inl at ↦ (
          let t = eq_yes k d at in
          let l : live p u d ≡ live p o d + 1 = is d ∙ ap (λ b. live p o d + one b) t in
          let more = ceil_one_more (live p o d + one (nat_eq (class_for p n) d)) (slots_of p d) (slots_some p ok d (omega arith)) in
          let same = ceil_mono (live p u d + one (nat_eq (class_for p n) d)) (live p o d + one (nat_eq (class_for p n) d) + 1) (slots_of p d) (omega arith) in
          rw t (omega arith))
      | inr off ↦ (
          let t = eq_no k d off in
          let l : live p u d ≡ live p o d + 0 = is d ∙ ap (λ b. live p o d + one b) t in
          let same = ceil_mono (live p u d + one (nat_eq (class_for p n) d)) (live p o d + one (nat_eq (class_for p n) d)) (slots_of p d) (omega arith) in
          rw t (omega arith))
    ])

-- with the job's slot the objects need one page more at most
pub needed_with_slot : (plan : Plan) → IsPlan plan → (m : Held) → get m plan.proxies ≡ None → (o : Option JobSlot) (n : ℕ)
    → pages_needed_with plan.paging (objects (with_slot plan m o)) n ≤ pages_needed_with plan.paging (objects m) n + 1
needed_with_slot plan ok m none None n = omega arith
needed_with_slot plan ok m none (Some k) n =
    let e = map_values-insert (λ (x : Placed). x.bytes) m plan.proxies (placeholder plan.paging k) in
    rw e (needed_one_more plan.paging ok.paging (objects m) (insert (objects m) plan.proxies (placeholder plan.paging k).bytes) n
    (class_for plan.paging (length (placeholder plan.paging k).bytes))
    (λ c. live_added plan.paging (objects m) plan.proxies (placeholder plan.paging k).bytes c (bytes_missing m plan.proxies none)))
