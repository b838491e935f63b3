-- The most pages that objects can be on, with some of them partly full: no fewer for more objects, at least the pages that the objects need, and with bound one
-- just these.
use Rattle.std.proofs.Common.{◌≡◌, ℕ, zero, suc, ◌+◌, ◌-◌, ◌*◌, ◌<◌, ◌≤◌, arith, ap, inl, inr, refl}
use Rattle.std.proofs.lemmas.Bool.{cases_lt}
use Rattle.std.proofs.lemmas.Nat.{mul-le}
use Rattle.page_model.specs.Counts.{CanHold, LieOn, ceil_div, most_pages}
use Rattle.page_model.proofs.PageLaws.{can_hold_one, most_pages_least, most_pages_reached, one_can_hold}

-- one object more can be on no fewer pages
one_more : (h n m k q : ℕ) → 0 < m → 0 < k → LieOn h n m k q → (g : ℕ) × (h ≤ g) × CanHold g (n + 1) m k
one_more h n m k zero pos some s =
    let e : h - 0 ≡ h = omega arith in
    let least : h * m + 0 ≤ n = rw e at s.least in
    let most : n ≤ h * m + 0 * (m - 1) = rw e at s.most in
    elim (cases_lt 1 m) [
      | inl several ↦ (
          let e' : h + 1 - 1 ≡ h = omega arith in (
            h + 1,
            omega arith,
            (1, record { few = some; within = omega arith; least = rw e' (omega arith); most = rw e' (omega arith) }),
          ))
      | inr single ↦ (
          let e' : h + 1 - 0 ≡ h + 1 = omega arith in
          let is : h * m ≡ h * 1 = ap (λ x. h * x) (let x : m ≡ 1 = omega arith in x) in
          let next : (h + 1) * m ≡ (h + 1) * 1 = ap (λ x. (h + 1) * x) (let x : m ≡ 1 = omega arith in x) in (
            h + 1,
            omega arith,
            (0, record { few = omega arith; within = omega arith; least = rw e' (omega arith); most = rw e' (omega arith) }),
          ))
    ]
one_more h n m k (suc q) pos some s = elim (cases_lt n ((h - suc q) * m + suc q * (m - 1))) [
  | inl less ↦ (
    h,
    omega arith,
    (
      suc q,
      record {
        few = s.few;
        within = s.within;
        least = (let l = s.least in omega arith);
        most = omega arith;
      },
    ),
  )
  | inr full ↦ (
      let few = s.few in
      let within = s.within in
      let least = s.least in
      let most = s.most in
      let slots : m ≡ (m - 1) + 1 = omega arith in
      let fewer : h - q ≡ (h - suc q) + 1 = omega arith in
      let inner : (h - suc q) * m ≡ (h - suc q) * ((m - 1) + 1) = ap (λ x. (h - suc q) * x) slots in
      let several : 1 ≤ m - 1 = elim (cases_lt 0 (m - 1)) [
        | inl more ↦ more
        | inr one ↦ absurd (
            let z : (suc q) * (m - 1) ≡ (suc q) * 0 = ap (λ x. suc q * x) (let x : m - 1 ≡ 0 = omega arith in x) in
            omega arith)
      ] in
      let wide : q * 1 ≤ q * (m - 1) = mul-le q 1 q (m - 1) (omega arith) several in (
        h,
        omega arith,
        (
          q,
          record {
            few = omega arith;
            within = omega arith;
            least = rw fewer (omega arith);
            most = rw fewer (omega arith);
          },
        ),
      ))
]

-- the most pages of n + j objects, if n objects can be on h
grown : (j h n m k : ℕ) → 0 < m → 0 < k → CanHold h n m k → h ≤ most_pages (n + j) m k
grown zero h n m k pos some can = (let e : n + 0 ≡ n = omega arith in rw e (most_pages_least h n m k pos can))
grown (suc j) h n m k pos some can =
    let next = one_more h n m k can.0 pos some can.1 in
    let rest = grown j next.0 (n + 1) m k pos some next.2 in
    let up = next.1 in
    let e : n + 1 + j ≡ n + suc j = omega arith in
    let same : most_pages (n + 1 + j) m k ≡ most_pages (n + suc j) m k = ap (λ x. most_pages x m k) e in
    omega arith

pub most_grows : (a b m k : ℕ) → 0 < m → 0 < k → a ≤ b → most_pages a m k ≤ most_pages b m k
most_grows a b m k pos some le =
    let all = grown (b - a) (most_pages a m k) a m k pos some (most_pages_reached a m k pos some) in
    let e : a + (b - a) ≡ b = omega arith in
    let same : most_pages (a + (b - a)) m k ≡ most_pages b m k = ap (λ x. most_pages x m k) e in
    omega arith

-- the objects can be on the pages that they need
pub ceil_within_most : (n m k : ℕ) → 0 < m → 0 < k → ceil_div n m ≤ most_pages n m k
ceil_within_most n m k pos some = most_pages_least (ceil_div n m) n m k pos (wider (let c : CanHold (ceil_div n m) n m 1 = one_can_hold (ceil_div n m) n m pos refl in c))
  where
    wider : CanHold (ceil_div n m) n m 1 → CanHold (ceil_div n m) n m k
    wider (q, s) = (q, record { few = omega (arith, s.few); within = s.within; least = s.least; most = s.most })

pub most_at_one : (n m k : ℕ) → 0 < m → k ≡ 1 → most_pages n m k ≡ ceil_div n m
most_at_one n m k pos is =
    let same : most_pages n m k ≡ most_pages n m 1 = ap (λ x. most_pages n m x) is in
    let one = can_hold_one (most_pages n m 1) n m pos (most_pages_reached n m 1 pos (omega arith)) in
    omega arith
