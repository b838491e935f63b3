-- For `Classes::new`: the number of words of a page is a power of two.
use Rattle.std.proofs.Common.{◌≡◌, ℕ, ◌^◌, ◌<◌, Bool, inl, inr, arith, refl, sym, subst}
use Rattle.std.specs.Prelude.{◌||◌, ◌==◌, IsTrue}
use Rattle.std.specs.Int.Count.{count_trailing_zeros}
use Rattle.std.proofs.lemmas.Bool.{or_cases, eqb-true}
use Rattle.cf_base.specs.Limits.{is_page_size}

pub record IsPower (n : ℕ) : Type 0 where
  pub power : n ≡ 2 ^ count_trailing_zeros 32 n
  pub short : count_trailing_zeros 32 n < 32

either : (n k : ℕ) (others : Bool) → (IsTrue others → IsPower n) → IsPower k → IsTrue (others || n == k) → IsPower n
either n k others there here h = elim (or_cases _ _ h) [ inl l ↦ there l | inr is ↦ subst IsPower (sym (eqb-true n k is)) here ]

pub page_power : (n : ℕ) → IsTrue (is_page_size n) → IsPower n
unfolding count_trailing_zeros
page_power n =
    either n 16384 _ (
    either n 8192 _ (
    either n 4096 _ (
    either n 2048 _ (
    either n 1024 _ (
    either n 512 _ (
    either n 256 _ (
    either n 128 _ (λ is. subst IsPower (sym (eqb-true n 64 is)) (record { power = refl; short = omega arith }))
    (record { power = refl; short = omega arith }))
    (record { power = refl; short = omega arith }))
    (record { power = refl; short = omega arith }))
    (record { power = refl; short = omega arith }))
    (record { power = refl; short = omega arith }))
    (record { power = refl; short = omega arith }))
    (record { power = refl; short = omega arith }))
    (record { power = refl; short = omega arith })
