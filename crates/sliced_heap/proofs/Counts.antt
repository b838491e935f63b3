-- For `count_in`, `count_out` and `write`: one object more adds one page, or none, to the pages that the objects need, counted by class and rounded up; one
-- less takes it away; with as many objects in each class they are the same.
use Rattle.std.proofs.Common.{◌≡◌, ℕ, ◌+◌, ◌-◌, ◌*◌, ◌/◌, ◌%◌, ◌<◌, List, Some, None, length}
use Rattle.std.proofs.Common.{arith, refl, sym, ◌∙◌, ap, inl, inr}
use Rattle.std.specs.Prelude.{nat_eq}
use Rattle.std.specs.List.{range_with_len}
use Rattle.std.proofs.lemmas.Bool.{cases_eq}
use Rattle.std.proofs.lemmas.Nat.{div-add-mod', div-mul-add}
use Rattle.std.proofs.Math.Nat.{mod-lt}
use Rattle.std.specs.FinMap.{get, insert, remove}
use Rattle.cf_base.proofs.Ranges.{one, sum_changed}
use Rattle.cf_base.proofs.Tests.{eq_no, eq_yes}
use Rattle.page_model.specs.Arrangement.{live, pages_needed, pages_needed_with}
use Rattle.page_model.specs.Counts.{ceil_div}
use Rattle.page_model.specs.Held.{Objects}
use Rattle.page_model.specs.Paging.{Paging, IsPaging, class_for, classes, slots_of}
use Rattle.page_model.proofs.CallerLemmas.{live_added, live_taken, slots_some, sum_same}
use Rattle.sliced_heap.specs.Layout.{opens}

-- one more object of a class adds one page to those that its objects need, or none (`opens`)
ceil_more : (n m : ℕ) → 0 < m → ceil_div (n + 1) m ≡ ceil_div n m + opens m n
ceil_more n m pos =
    let e : n / m * m + n % m ≡ n = div-add-mod' n m in
    let lt : n % m < m = mod-lt n pos in
    elim (cases_eq (n % m) 0) [
      | inl none ↦ (
          let t = eq_yes (n % m) 0 none in
          let a : n + (m - 1) ≡ n / m * m + (m - 1) = omega arith in
          let b : n + 1 + (m - 1) ≡ (n / m + 1) * m + 0 = omega arith in
          let x : ceil_div n m ≡ n / m = ap (λ z. z / m) a ∙ div-mul-add (n / m) m (m - 1) (omega arith) in
          let y : ceil_div (n + 1) m ≡ n / m + 1 = ap (λ z. z / m) b ∙ div-mul-add (n / m + 1) m 0 pos in
          rw t (omega arith))
      | inr some ↦ (
          let t = eq_no (n % m) 0 some in
          let a : n + (m - 1) ≡ (n / m + 1) * m + (n % m - 1) = omega arith in
          let b : n + 1 + (m - 1) ≡ (n / m + 1) * m + n % m = omega arith in
          let x : ceil_div n m ≡ n / m + 1 = ap (λ z. z / m) a ∙ div-mul-add (n / m + 1) m (n % m - 1) (omega arith) in
          let y : ceil_div (n + 1) m ≡ n / m + 1 = ap (λ z. z / m) b ∙ div-mul-add (n / m + 1) m (n % m) lt in
          rw t (omega arith))
    ]

module _ (p : Paging) (ok : IsPaging p) (o : Objects) (n : ℕ) (lt : class_for p n < classes p) where
  -- one more object needs one more page, or none
  pub needed_more : pages_needed_with p o n ≡ pages_needed p o + opens (slots_of p (class_for p n)) (live p o (class_for p n))
  unfolding pages_needed pages_needed_with
  needed_more =
      let all = sum_changed (λ d. ceil_div (live p o d + one (nat_eq (class_for p n) d)) (slots_of p d)) (λ d. ceil_div (live p o d) (slots_of p d)) 0
      (classes p) (class_for p n) (omega arith) (omega arith)
      (λ d _ _ ne. (let t : one (nat_eq (class_for p n) d) ≡ 0 = ap one (eq_no (class_for p n) d (λ e. ne (sym e))) in
      let z : live p o d + one (nat_eq (class_for p n) d) ≡ live p o d = omega arith in ap (λ k. ceil_div k (slots_of p d)) z)) in
      let t : one (nat_eq (class_for p n) (class_for p n)) ≡ 1 = ap one (eq_yes (class_for p n) (class_for p n) refl) in
      let here : ceil_div (live p o (class_for p n) + one (nat_eq (class_for p n) (class_for p n))) (slots_of p (class_for p n))
      ≡ ceil_div (live p o (class_for p n) + 1) (slots_of p (class_for p n)) =
      ap (λ k. ceil_div (live p o (class_for p n) + k) (slots_of p (class_for p n))) t in
      let more = ceil_more (live p o (class_for p n)) (slots_of p (class_for p n)) (slots_some p ok (class_for p n) lt) in
      omega arith

module _ (p : Paging) (o : Objects) (h : ℕ) (v : List ℕ) where
  pub needed_added : get o h ≡ None → pages_needed p (insert o h v) ≡ pages_needed_with p o (length v)
  unfolding pages_needed pages_needed_with
  needed_added none = sum_same (λ c. ceil_div (live p (insert o h v) c) (slots_of p c))
      (λ c. ceil_div (live p o c + one (nat_eq (class_for p (length v)) c)) (slots_of p c)) (range_with_len 0 (classes p))
      (λ c. ap (λ k. ceil_div k (slots_of p c)) (live_added p o h v c none))

  pub needed_taken : get o h ≡ Some v → pages_needed p o ≡ pages_needed_with p (remove o h) (length v)
  unfolding pages_needed pages_needed_with
  needed_taken some = sum_same (λ c. ceil_div (live p o c) (slots_of p c))
      (λ c. ceil_div (live p (remove o h) c + one (nat_eq (class_for p (length v)) c)) (slots_of p c)) (range_with_len 0 (classes p))
      (λ c. ap (λ k. ceil_div k (slots_of p c)) (sym (live_taken p o h v c some)))

pub needed_same : (p : Paging) (o u : Objects) → ((c : ℕ) → live p o c ≡ live p u c) → pages_needed p o ≡ pages_needed p u
unfolding pages_needed
needed_same p o u same = sum_same (λ c. ceil_div (live p o c) (slots_of p c)) (λ c. ceil_div (live p u c) (slots_of p c)) (range_with_len 0 (classes p))
    (λ c. ap (λ k. ceil_div k (slots_of p c)) (same c))
