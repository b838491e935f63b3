-- What other crates' proofs may cite: how the steps of several calls, one after the other, add up; and that a count too low to saturate
-- rises by exactly the steps of a call.
use Rattle.std.proofs.Common.{◌≡◌, ℕ, ◌+◌, ◌^◌, ◌<◌, ◌≤◌, inl, inr, arith, subst}
use Rattle.std.proofs.lemmas.Bool.{cases_lt}
use Rattle.step_ledger.specs.Counting.{RoseAtMost, RoseBy}

-- a call without steps
pub rose_none : (a : ℕ) → RoseBy a a 0
rose_none a = record { kept = omega arith; bound = omega arith; exact = λ fits. omega arith; capped = λ small over. absurd (omega arith) }

-- the steps of two calls, one after the other, add up
pub rose_both : (a b c m n : ℕ) → RoseBy a b m → RoseBy b c n → RoseBy a c (m + n)
rose_both a b c m n x y =
    let k = x.kept in let l = y.kept in let p = x.bound in let q = y.bound in
    record {
      kept = omega arith;
      bound = omega arith;
      exact = λ fits. (let e = x.exact (omega arith) in let f = y.exact (omega arith) in omega arith);
      capped = λ small over. elim (cases_lt (a + m) (2 ^ 64)) [
        | inl fits ↦ (let e = x.exact fits in y.capped (omega arith) (omega arith))
        | inr past ↦ (let e = x.capped small past in elim (cases_lt (b + n) (2 ^ 64)) [
          | inl fits ↦ (let f = y.exact fits in omega arith)
          | inr more ↦ y.capped (omega arith) more
        ])
      ];
    }

-- if the count rose by m steps and m equals n, it rose by n steps
pub rose_by : (a b m n : ℕ) → m ≡ n → RoseBy a b m → RoseBy a b n
rose_by a b m n is rose = subst (λ k. RoseBy a b k) is rose

-- a count that is too low to saturate rises by exactly n steps
pub rose_is : (old new n most : ℕ) → old ≤ 2 ^ 63 → most < 2 ^ 62 → RoseBy old new n → RoseAtMost old new most → new ≡ old + n
rose_is old new n most small few by at = elim (cases_lt (old + n) (2 ^ 64)) [
  | inl fits ↦ by.exact fits
  | inr past ↦ absurd (let e = by.capped (omega arith) past in let l = at.bound in omega arith)
]
