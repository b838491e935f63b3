-- For the laws of `counts.rt`: n objects, m to a page, with at most k pages partly full, can be on at most ⌊n/m⌋ + k pages; if k is 1, on just ⌈n/m⌉, which
-- every greater k allows too. Also a test of such numbers, the greatest, and the quotient of a number between two multiples.
use Rattle.std.proofs.Common.{◌≡◌, ℕ, zero, suc, Bool, true, false, ◌+◌, ◌-◌, ◌*◌, ◌/◌, ◌%◌, ◌<◌, ◌≤◌, arith, sym, ◌∙◌, inl, inr, refl}
use Rattle.std.specs.Prelude.{◌&&◌, ◌||◌, nat_le}
use Rattle.std.specs.List.{range_with_len, list_any}
use Rattle.std.proofs.lemmas.Bool.{cases_lt, cases_eq, false≢true, and_parts}
use Rattle.std.proofs.lemmas.Bool.Decides.{nat_tests}
use Rattle.std.proofs.lemmas.Nat.{div-add-mod', mul-le}
use Rattle.std.proofs.Math.Nat.{mod-lt}
use Rattle.page_model.specs.Counts.{CanHold, can_hold, ceil_div, greatest, most_pages}

one_less : (p m : ℕ) → 1 ≤ p → (p - 1) * m + m ≡ p * m
one_less zero m h = absurd (omega arith)
one_less (suc p) m h = (let e : suc p - 1 ≡ p = omega arith in rw e (omega arith))

-- the quotient of a number between two multiples
pub between_multiples : (x c m : ℕ) → 0 < m → c * m ≤ x → x < c * m + m → x / m ≡ c
between_multiples x c m pos low high =
    let e : x / m * m + x % m ≡ x = div-add-mod' x m in
    let r : x % m < m = mod-lt x pos in
    elim (cases_lt (x / m) c) [
      | inl less ↦ absurd (let b : (x / m + 1) * m ≤ c * m = mul-le (x / m + 1) m c m (omega arith) (omega arith) in omega arith)
      | inr more ↦ elim (cases_lt c (x / m)) [
        | inl over ↦ absurd (let b : (c + 1) * m ≤ x / m * m = mul-le (c + 1) m (x / m) m (omega arith) (omega arith) in omega arith)
        | inr not_over ↦ omega arith
      ]
    ]

-- at most n / m pages, plus k
pub can_hold_bound : (p n m k : ℕ) → 0 < m → CanHold p n m k → p ≤ n / m + k
can_hold_bound p n m k pos (q, s) = elim (cases_lt (n / m) (p - q)) [
  | inl more ↦ absurd (
      let e : n / m * m + n % m ≡ n = div-add-mod' n m in
      let r : n % m < m = mod-lt n pos in
      let b : (n / m + 1) * m ≤ (p - q) * m = mul-le (n / m + 1) m (p - q) m (omega arith) (omega arith) in
      omega (arith, s.least))
  | inr less ↦ omega (arith, s.few)
]

-- with k = 1 there is one number of pages
pub can_hold_one : (p n m : ℕ) → 0 < m → CanHold p n m 1 → p ≡ ceil_div n m
can_hold_one p n m pos (zero, s) =
    let low = s.least in let high = s.most in
    let e : p - 0 ≡ p = omega arith in
    let low' : p * m + 0 ≤ n = rw e at low in
    let high' : n ≤ p * m + 0 * (m - 1) = rw e at high in
    sym (between_multiples (n + (m - 1)) p m pos (omega arith) (omega arith))
can_hold_one p n m pos (suc zero, s) =
    let low = s.least in let high = s.most in
    let some : 1 ≤ p = s.within in
    let e = one_less p m some in
    sym (between_multiples (n + (m - 1)) p m pos (omega arith) (omega arith))
can_hold_one p n m pos (suc (suc q), s) = absurd (omega (arith, s.few))

pub one_can_hold : (p n m : ℕ) → 0 < m → p ≡ ceil_div n m → CanHold p n m 1
one_can_hold p n m pos is =
    let x : ℕ = n + (m - 1) in
    let e : (n + (m - 1)) / m * m + (n + (m - 1)) % m ≡ n + (m - 1) = div-add-mod' (n + (m - 1)) m in
    let r : (n + (m - 1)) % m < m = mod-lt (n + (m - 1)) pos in
    let e' : p * m + (n + (m - 1)) % m ≡ n + (m - 1) = rw is e in
    elim (cases_eq ((n + (m - 1)) % m) (m - 1)) [
      | inl full ↦ (
          let p-0 : p - 0 ≡ p = omega arith in
          (0, record { few = omega arith; within = omega arith; least = rw p-0 (omega arith); most = rw p-0 (omega arith) }))
      | inr part ↦ (
          let some : 1 ≤ p = elim (cases_eq p 0) [
            | inl none ↦ absurd (let z : 0 * m + (n + (m - 1)) % m ≡ n + (m - 1) = rw none at e' in omega arith)
            | inr ne ↦ omega arith
          ] in
          let o = one_less p m some in
          (1, record { few = omega arith; within = some; least = omega arith; most = omega arith }))
    ]

-- if the test passes at a number of the range, `list_any` does
any_in : (f : ℕ → Bool) (a n q : ℕ) → a ≤ q → q < a + n → f q ≡ true → list_any f (range_with_len a n) ≡ true
any_in f a zero q low high is = absurd (omega arith)
any_in f a (suc n) q low high is = elim (cases_eq a q) [
  | inl same ↦ (let e : f a ≡ true = rw same is in rw e refl)
  | inr ne ↦ (let e : list_any f (range_with_len (a + 1) n) ≡ true = any_in f (a + 1) n q (omega arith) (omega arith) is in rw e (or_true (f a)))
]
  where
    or_true : (b : Bool) → (b || true) ≡ true
    or_true true = refl
    or_true false = refl

-- and if `list_any` does, the test passes at a number of the range
in_any : (f : ℕ → Bool) (a n : ℕ) → list_any f (range_with_len a n) ≡ true → (q : ℕ) × (a ≤ q) × (q < a + n) × (f q ≡ true)
in_any f a zero is = absurd (false≢true is)
in_any f a (suc n) is = go (f a) refl is (λ e. in_any f (a + 1) n e)
  where
    go : (b : Bool) → f a ≡ b → (b || list_any f (range_with_len (a + 1) n)) ≡ true
        → (list_any f (range_with_len (a + 1) n) ≡ true → (q : ℕ) × (a + 1 ≤ q) × (q < a + 1 + n) × (f q ≡ true))
        → (q : ℕ) × (a ≤ q) × (q < a + suc n) × (f q ≡ true)
    go true e is ih = (a, omega arith, omega arith, e)
    go false e is ih = (let o = ih is in (o.0, omega (arith, o.1), omega (arith, o.2), o.3))

-- the test `can_hold` passes if and only if n objects can be on p pages
pub tested : (p n m k : ℕ) → CanHold p n m k → can_hold p n m k ≡ true
tested p n m k (q, s) = any_in (λ q. nat_le q p && nat_le ((p - q) * m + q) n && nat_le n ((p - q) * m + q * (m - 1))) 0 (k + 1) q (omega arith)
    (omega (arith, s.few))
    (let a : nat_le q p ≡ true = grind (arith, nat_tests, s.within) in
    let b : nat_le ((p - q) * m + q) n ≡ true = grind (arith, nat_tests, s.least) in
    let c : nat_le n ((p - q) * m + q * (m - 1)) ≡ true = grind (arith, nat_tests, s.most) in
    rw (a, b, c) refl)

pub test_shows : (p n m k : ℕ) → can_hold p n m k ≡ true → CanHold p n m k
test_shows p n m k e =
    let o = in_any (λ q. nat_le q p && nat_le ((p - q) * m + q) n && nat_le n ((p - q) * m + q * (m - 1))) 0 (k + 1) e in
    shown o.0 o.2 o.3
  where
    shown : (q : ℕ) → q < 0 + (k + 1) → (nat_le q p && nat_le ((p - q) * m + q) n && nat_le n ((p - q) * m + q * (m - 1))) ≡ true → CanHold p n m k
    shown q below e =
        let x = and_parts (nat_le q p && nat_le ((p - q) * m + q) n) (nat_le n ((p - q) * m + q * (m - 1))) e in
        let y = and_parts (nat_le q p) (nat_le ((p - q) * m + q) n) x.0 in
        let a : nat_le q p ≡ true = y.0 in
        let b : nat_le ((p - q) * m + q) n ≡ true = y.1 in
        let c : nat_le n ((p - q) * m + q * (m - 1)) ≡ true = x.1 in
        (q, record { few = omega arith; within = grind (arith, nat_tests); least = grind (arith, nat_tests); most = grind (arith, nat_tests) })

greatest_least : (test : ℕ → Bool) (top p : ℕ) → p ≤ top → test p ≡ true → p ≤ greatest test top
greatest_least test zero p le is = le
greatest_least test (suc top) p le is = go (test (suc top)) refl (λ le. greatest_least test top p le is)
  where
    go : (b : Bool) → test (suc top) ≡ b → (p ≤ top → p ≤ greatest test top) → p ≤ greatest test (suc top)
    go true e ih = rw (e, greatest) le
    go false e ih = rw (e, greatest) (ih (elim (cases_eq p (suc top)) [
      | inl same ↦ absurd (let t : test (suc top) ≡ true = rw (← same) is in false≢true (sym e ∙ t))
      | inr ne ↦ omega arith
    ]))

-- `most_pages` is at least every number of pages that n objects can be on
pub most_pages_least : (p n m k : ℕ) → 0 < m → CanHold p n m k → p ≤ most_pages n m k
unfolding most_pages
most_pages_least p n m k pos can = greatest_least (λ p. can_hold p n m k) (n / m + k) p (can_hold_bound p n m k pos can) (tested p n m k can)

greatest_passes : (test : ℕ → Bool) (top p : ℕ) → p ≤ top → test p ≡ true → test (greatest test top) ≡ true
greatest_passes test zero p le is = (let e : p ≡ 0 = omega arith in rw e at is)
greatest_passes test (suc top) p le is = go (test (suc top)) refl (λ le. greatest_passes test top p le is)
  where
    go : (b : Bool) → test (suc top) ≡ b → (p ≤ top → test (greatest test top) ≡ true) → test (greatest test (suc top)) ≡ true
    go true e ih = rw (e, greatest) e
    go false e ih = rw (e, greatest) (ih (elim (cases_eq p (suc top)) [
      | inl same ↦ absurd (let t : test (suc top) ≡ true = rw (← same) is in false≢true (sym e ∙ t))
      | inr ne ↦ omega arith
    ]))

-- objects that fit pages with bound 1 do with every bound
pub wider : (q n m k : ℕ) → 0 < k → CanHold q n m 1 → CanHold q n m k
wider q n m k some (parts, s) = (parts, record { few = omega (arith, s.few); within = s.within; least = s.least; most = s.most })

-- n objects can be on `most_pages` pages
pub most_pages_reached : (n m k : ℕ) → 0 < m → 0 < k → CanHold (most_pages n m k) n m k
unfolding most_pages
most_pages_reached n m k pos some =
    let one = one_can_hold (ceil_div n m) n m pos refl in
    let all : CanHold (ceil_div n m) n m k = wider (ceil_div n m) n m k some one in
    test_shows (greatest (λ p. can_hold p n m k) (n / m + k)) n m k
    (greatest_passes (λ p. can_hold p n m k) (n / m + k) (ceil_div n m) (can_hold_bound (ceil_div n m) n m k pos all) (tested (ceil_div n m) n m k all))
