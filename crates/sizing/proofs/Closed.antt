-- For `pages_at_most`: `most_pages` in closed form; and pages that objects can be on are no more than the objects, with few free slots.
use Rattle.std.proofs.Common.{◌≡◌, ℕ, zero, suc, ◌+◌, ◌-◌, ◌*◌, ◌/◌, ◌%◌, ◌<◌, ◌≤◌, min, arith, ap, inl, inr}
use Rattle.std.specs.Prelude.{◌⊎◌}
use Rattle.std.proofs.lemmas.Bool.{cases_lt}
use Rattle.std.proofs.lemmas.Nat.{div-add-mod', le-div, mul-le}
use Rattle.std.proofs.Math.Nat.{le-min, min-le_left, min-le_right, mod-lt}
use Rattle.page_model.specs.Counts.{CanHold, most_pages}
use Rattle.page_model.proofs.PageLaws.{most_pages_least, most_pages_reached}

-- a product that is below that of one more
under : (q k j : ℕ) → q * j < (k + 1) * j → q ≤ k
under q k j lt = elim (cases_lt k q) [
  | inr le ↦ omega arith
  | inl more ↦ absurd (let b = mul-le (k + 1) j q j (omega arith) (omega arith) in omega arith)
]

-- P pages of j + 1 slots, at most k of them partly full, have no more pages than objects and at most k * j free slots
pub within : (P n j k : ℕ) → CanHold P n (suc j) k → (P ≤ n) × (P * suc j ≤ n + k * j)
within P n j k (q, s) =
    let few = s.few in
    let fits = s.within in
    let least = s.least in
    let split : P ≡ (P - q) + q = omega arith in
    let wide : P * suc j ≡ ((P - q) + q) * suc j = ap (λ x. x * suc j) split in
    let free : q * j ≤ k * j = mul-le q j k j few (omega arith) in
    let full : (P - q) * 1 ≤ (P - q) * suc j = mul-le (P - q) 1 (P - q) (suc j) (omega arith) (omega arith) in
    (omega arith, omega arith)

-- P pages with j + 1 slots each hold n objects, if there are enough slots and not too many free ones
held : (P n i k : ℕ) → P ≤ n → n ≤ P * suc (suc i) → P * suc (suc i) ≤ n + k * suc i → CanHold P n (suc (suc i)) k
held P n i k some slots free =
    let s : ℕ = P * suc (suc i) - n in
    let q : ℕ = (P * suc (suc i) - n + i) / suc i in
    let d : (P * suc (suc i) - n + i) / suc i * suc i + (P * suc (suc i) - n + i) % suc i ≡ P * suc (suc i) - n + i = div-add-mod' (P * suc (suc i) - n + i) (suc i) in
    let r : (P * suc (suc i) - n + i) % suc i < suc i = mod-lt (P * suc (suc i) - n + i) (omega arith) in
    go ((P * suc (suc i) - n + i) / suc i) (omega arith) (omega arith)
  where
    go : (q : ℕ) → q * suc i ≤ P * suc (suc i) - n + i → P * suc (suc i) - n ≤ q * suc i → CanHold P n (suc (suc i)) k
    go q low high =
        let j : suc (suc i) - 1 ≡ suc i = omega arith in
        let few : q ≤ k = under q k (suc i) (omega arith) in
        let fits : q ≤ P = under q P (suc i) (omega arith) in
        let free_of : (P * suc (suc i) - n) * 1 ≤ (P * suc (suc i) - n) * suc i = mul-le (P * suc (suc i) - n) 1 (P * suc (suc i) - n) (suc i) (omega arith) (omega arith) in
        let partly : q ≤ P * suc (suc i) - n = under q (P * suc (suc i) - n) (suc i) (omega arith) in
        let split : P ≡ (P - q) + q = omega arith in
        let wide : P * suc (suc i) ≡ ((P - q) + q) * suc (suc i) = ap (λ x. x * suc (suc i)) split in
        let inner : q * (suc (suc i) - 1) ≡ q * suc i = ap (λ x. q * x) j in
        (q, record { few = few; within = fits; least = omega arith; most = omega arith })

-- the numbers of pages that the closed form allows are those that can be
pub most_is : (n m k : ℕ) → 0 < m → 0 < k → min ((n + k * (m - 1)) / m) n ≡ most_pages n m k
most_is n zero k pos some = absurd (omega arith)
most_is n (suc j) k pos some =
    let minus : suc j - 1 ≡ j = omega arith in
    let same : k * (suc j - 1) ≡ k * j = ap (λ x. k * x) minus in
    let d : (n + k * (suc j - 1)) / suc j * suc j + (n + k * (suc j - 1)) % suc j ≡ n + k * (suc j - 1) = div-add-mod' (n + k * (suc j - 1)) (suc j) in
    let r : (n + k * (suc j - 1)) % suc j < suc j = mod-lt (n + k * (suc j - 1)) pos in
    let one : 1 * j ≤ k * j = mul-le 1 j k j some (omega arith) in
    let top = within (most_pages n (suc j) k) n j k (most_pages_reached n (suc j) k pos some) in
    let up : most_pages n (suc j) k ≤ min ((n + k * (suc j - 1)) / suc j) n =
    le-min (le-div (most_pages n (suc j) k) (n + k * (suc j - 1)) (suc j) pos (omega (arith, top.1))) top.0 in
    let down : min ((n + k * (suc j - 1)) / suc j) n ≤ most_pages n (suc j) k =
    most_pages_least (min ((n + k * (suc j - 1)) / suc j) n) n (suc j) k pos
    (reached j (min ((n + k * (suc j - 1)) / suc j) n) ((n + k * (suc j - 1)) / suc j)
    (min-le_left ((n + k * (suc j - 1)) / suc j) n) (min-le_right ((n + k * (suc j - 1)) / suc j) n)
    (either ((n + k * (suc j - 1)) / suc j) n) (omega arith) (omega arith)) in
    omega arith
  where
    either : (a b : ℕ) → (min a b ≡ a) ⊎ (min a b ≡ b)
    either a b = elim (cases_lt a b) [ inl lt ↦ inl (omega arith) | inr ge ↦ inr (omega arith) ]

    reached : (j P D : ℕ) → P ≤ D → P ≤ n → (P ≡ D) ⊎ (P ≡ n) → D * suc j ≤ n + k * j → n ≤ D * suc j → CanHold P n (suc j) k
    reached zero P D below few is high low = (
      0,
      record {
        few = omega arith;
        within = omega arith;
        least = (let e : P - 0 ≡ P = omega arith in rw e (omega arith));
        most = (let e : P - 0 ≡ P = omega arith in rw e (elim is [ inl d ↦ omega arith | inr m ↦ omega arith ]));
      },
    )
    reached (suc i) P D below few is high low =
        let less : P * suc (suc i) ≤ D * suc (suc i) = mul-le P (suc (suc i)) D (suc (suc i)) below (omega arith) in
        let slots : n ≤ P * suc (suc i) = elim is [
          | inl d ↦ (let e : P * suc (suc i) ≡ D * suc (suc i) = ap (λ x. x * suc (suc i)) d in omega arith)
          | inr m ↦ (
              let e : P * suc (suc i) ≡ n * suc (suc i) = ap (λ x. x * suc (suc i)) m in
              let some : n * 1 ≤ n * suc (suc i) = mul-le n 1 n (suc (suc i)) (omega arith) (omega arith) in
              omega arith)
        ] in
        held P n i k few slots (omega arith)
