-- For the free-list rules, whose lists follow the powers of two: these powers, and the binary logarithm, rounded down.
use Rattle.std.proofs.Common.{◌≡◌, ℕ, zero, suc, true, false, ◌+◌, ◌*◌, ◌^◌, ◌<◌, ◌≤◌, arith, sym, ◌∙◌, inl, inr}
use Rattle.std.specs.Prelude.{nat_le}
use Rattle.std.proofs.lemmas.Bool.{cases_lt}
use Rattle.std.proofs.lemmas.Bool.Decides.{nat_tests}
use Rattle.std.proofs.lemmas.Nat.{pow-add}
use Rattle.std.proofs.Math.Nat.{pow-le-pow_right, pow-suc}
use Rattle.block_model.specs.Buckets.{log_up_to, log}

pub power_le : (i j : ℕ) → i ≤ j → 2 ^ i ≤ 2 ^ j
power_le i j le = pow-le-pow_right {n = 2} (omega arith) le

pub power_more : (i : ℕ) → 2 ^ (i + 1) ≡ 2 * 2 ^ i
power_more i = (let e = pow-add 2 i 1 in omega arith)

-- the exponent of the greatest power of two that is at most n
pub log_is : (top n f : ℕ) → f ≤ top → 2 ^ f ≤ n → n < 2 * 2 ^ f → log_up_to top n ≡ f
unfolding log_up_to
log_is zero n f le low high = omega arith
log_is (suc top) n f le low high = elim (cases_lt top f) [
  | inl last ↦ (
      let is : f ≡ suc top = omega arith in
      let yes : nat_le (2 ^ suc top) n ≡ true = (let low' : 2 ^ suc top ≤ n = rw (← is) low in grind (arith, nat_tests)) in
      rw (yes, log_up_to) (sym is))
  | inr less ↦ (
      let p = power_le (f + 1) (suc top) (omega arith) in
      let q = power_more f in
      let above : n < 2 ^ suc top = omega arith in
      let no : nat_le (2 ^ suc top) n ≡ false = grind (arith, nat_tests) in
      rw (no, log_up_to) (log_is top n f less low high))
]

-- every positive number below the next power has a logarithm
pub log_found : (top n : ℕ) → 1 ≤ n → n < 2 * 2 ^ top → (2 ^ log_up_to top n ≤ n) × (n < 2 * 2 ^ log_up_to top n) × (log_up_to top n ≤ top)
unfolding log_up_to
log_found zero n some high = (some, high, omega arith)
log_found (suc top) n some high = elim (cases_lt n (2 ^ suc top)) [
  | inl below ↦ (
      let no : nat_le (2 ^ suc top) n ≡ false = grind (arith, nat_tests) in
      let q : 2 ^ suc top ≡ 2 * 2 ^ top = pow-suc 2 top ∙ omega arith in
      let r = log_found top n some (omega arith) in
      rw (no, log_up_to) (r.0, r.1, omega (arith, r.2)))
  | inr above ↦ (
      let yes : nat_le (2 ^ suc top) n ≡ true = grind (arith, nat_tests) in
      rw (yes, log_up_to) (above, high, omega arith))
]

-- a greater number has at least the same logarithm
pub log_rises : (m n : ℕ) → 1 ≤ m → m ≤ n → n < 2 ^ 32 → log m ≤ log n
log_rises m n some le high = elim (cases_lt (log n) (log m)) [
  | inl less ↦ (
      let a = log_found 31 m some (omega arith) in
      let b = log_found 31 n (omega arith) (omega arith) in
      let p = power_le (log n + 1) (log m) (omega arith) in
      let q = power_more (log n) in
      absurd (omega (arith, a.0, b.1)))
  | inr l ↦ l
]
