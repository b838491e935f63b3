-- The free-list rules of TLSF (336 lists) and Half-Fit (24) are lawful: list numbers don't fall as the size grows, and from the first list that is searched
-- on, each block has the words that are needed. For `bucket_of` and `rounded_up` of TLSF: the list and the rounded size for s words, by the logarithm of s.
use Rattle.std.proofs.Common.{◌≡◌, ℕ, true, false, ◌+◌, ◌-◌, ◌*◌, ◌/◌, ◌^◌, ◌<◌, ◌≤◌, arith, sym, ◌∙◌, inl, inr, ap, refl, subst}
use Rattle.std.specs.Prelude.{nat_le, nat_lt}
use Rattle.std.proofs.lemmas.Bool.{cases_lt}
use Rattle.std.proofs.lemmas.Bool.Decides.{nat_tests}
use Rattle.std.proofs.lemmas.Nat.{pow_pos, pow-add, le-div, div_below}
use Rattle.std.proofs.Math.Nat.{div-mul-le_self}
use Rattle.block_model.specs.Buckets.{log, tlsf_bucket, tlsf_rounded, tlsf_search, tlsf, half_fit, AreLawful}
use Rattle.block_model.proofs.Logs.{power_le, power_more, log_is, log_found, log_rises}

pub small_bucket : (s : ℕ) → s < 16 → tlsf_bucket s ≡ s
unfolding tlsf_bucket
small_bucket s h = (let yes : nat_lt s 16 ≡ true = grind (arith, nat_tests) in rw yes refl)

pub small_rounded : (s : ℕ) → s < 16 → tlsf_rounded s ≡ s
unfolding tlsf_rounded
small_rounded s h = (let yes : nat_lt s 16 ≡ true = grind (arith, nat_tests) in rw yes refl)

-- a size s of 16 words or more, and the exponent f of the greatest power of two that is at most s
pub record IsPower (s f : ℕ) : Type 0 where
  pub large : 16 ≤ s
  pub low : 2 ^ f ≤ s
  pub high : s < 2 * 2 ^ f
  pub top : f ≤ 31

pub power_of : (s : ℕ) → 16 ≤ s → s < 2 ^ 32 → IsPower s (log s)
power_of s large within = (let r = log_found 31 s (omega arith) (omega arith) in record { large = large; low = r.0; high = r.1; top = r.2 })

module _ (s f : ℕ) (is : IsPower s f) where
  pub four : 4 ≤ f
  four = elim (cases_lt f 4) [
    | inl less ↦ (let p = power_le (f + 1) 4 (omega arith) in let q = power_more f in absurd (omega (arith, is.large, is.high)))
    | inr l ↦ l
  ]

  pub sixteenth : 2 ^ f ≡ 16 * 2 ^ (f - 4)
  sixteenth = (let l = four in let e : f - 4 + 4 ≡ f = omega arith in let p = pow-add 2 (f - 4) 4 in ap (λ n. 2 ^ n) (sym e) ∙ omega arith)

  pub log_of : log s ≡ f
  log_of = log_is 31 s f is.top is.low is.high

  pub large_bucket : tlsf_bucket s ≡ 16 + 16 * (f - 4) + (s - 2 ^ f) / 2 ^ (f - 4)
  unfolding tlsf_bucket
  large_bucket = (let l = is.large in let no : nat_lt s 16 ≡ false = grind (arith, nat_tests) in let e = log_of in rw (no, e) refl)

  pub large_rounded : tlsf_rounded s ≡ s + 2 ^ (f - 4) - 1
  unfolding tlsf_rounded
  large_rounded = (let l = is.large in let no : nat_lt s 16 ≡ false = grind (arith, nat_tests) in let e = log_of in rw (no, e) refl)

  pub few_lists : (s - 2 ^ f) / 2 ^ (f - 4) < 16
  few_lists = (let e = sixteenth in let h = is.high in div_below (s - 2 ^ f) (2 ^ (f - 4)) 16 (pow_pos (f - 4)) (omega arith))

-- a greater size is in the same list or a later one
pub not_below : (s f t : ℕ) → IsPower s f → s ≤ t → t < 2 ^ 32 → tlsf_bucket s ≤ tlsf_bucket t
not_below s f t is le within =
    let large = is.large in
    let it = power_of t (omega arith) within in
    let rises : f ≤ log t = (let r = log_rises s t (omega arith) le within in let e = log_of s f is in omega arith) in
    let a = large_bucket s f is in
    let few = few_lists s f is in
    let l = four s f is in
    let b = large_bucket t (log t) it in
    elim (cases_lt f (log t)) [
      | inl less ↦ omega arith
      | inr same ↦ (
          let is' : log t ≡ f = omega arith in
          let b' : tlsf_bucket t ≡ 16 + 16 * (f - 4) + (t - 2 ^ f) / 2 ^ (f - 4) =
          subst (λ n. tlsf_bucket t ≡ 16 + 16 * (n - 4) + (t - 2 ^ n) / 2 ^ (n - 4)) is' b in
          let down = div-mul-le_self (s - 2 ^ f) (2 ^ (f - 4)) in
          let up = le-div ((s - 2 ^ f) / 2 ^ (f - 4)) (t - 2 ^ f) (2 ^ (f - 4)) (pow_pos (f - 4)) (omega arith) in
          omega arith)
    ]

pub bucket_rises : (s t : ℕ) → s ≤ t → t < 2 ^ 32 → tlsf_bucket s ≤ tlsf_bucket t
bucket_rises s t le within = elim (cases_lt s 16) [
  | inl small ↦ rw (small_bucket s small) (elim (cases_lt t 16) [
    | inl small' ↦ rw (small_bucket t small') le
    | inr large ↦ (let it = power_of t large within in let b = large_bucket t (log t) it in omega arith)
  ])
  | inr large ↦ not_below s (log s) t (power_of s large (omega arith)) le within
]

-- a size t is in a later list than s if t is at least s plus the range of sizes of the list of s
pub next_list : (s f t : ℕ) → IsPower s f → s + 2 ^ (f - 4) ≤ t → t < 2 ^ 32 → tlsf_bucket s < tlsf_bucket t
next_list s f t is le within =
    let n = s + 2 ^ (f - 4) in
    let large = is.large in let low = is.low in let high = is.high in let top = is.top in
    let rest = bucket_rises (s + 2 ^ (f - 4)) t le within in
    let a = large_bucket s f is in
    let few = few_lists s f is in
    let l = four s f is in
    elim (cases_lt (s + 2 ^ (f - 4)) (2 * 2 ^ f)) [
      | inl same ↦ (
          let it : IsPower (s + 2 ^ (f - 4)) f = record { large = omega arith; low = omega arith; high = same; top = top } in
          let b = large_bucket (s + 2 ^ (f - 4)) f it in
          let down = div-mul-le_self (s - 2 ^ f) (2 ^ (f - 4)) in
          let up = le-div ((s - 2 ^ f) / 2 ^ (f - 4) + 1) (s + 2 ^ (f - 4) - 2 ^ f) (2 ^ (f - 4)) (pow_pos (f - 4)) (omega arith) in
          omega arith)
      | inr above ↦ (
          let it = power_of (s + 2 ^ (f - 4)) (omega arith) (omega arith) in
          let b = large_bucket (s + 2 ^ (f - 4)) (log (s + 2 ^ (f - 4))) it in
          let more : f + 1 ≤ log (s + 2 ^ (f - 4)) = elim (cases_lt f (log (s + 2 ^ (f - 4)))) [
            | inl less ↦ omega arith
            | inr le' ↦ (let p = power_le (log (s + 2 ^ (f - 4))) f le' in let h = it.high in absurd (omega arith))
          ] in
          omega arith)
    ]

tlsf_large_enough : (size need : ℕ) → size ≤ 2 ^ 23 → need ≤ 2 ^ 23 → size < need → tlsf_bucket size < tlsf_search need
tlsf_large_enough size need ls ln less = elim (cases_lt need 16) [
  | inl small ↦ rw (small_rounded need small, small_bucket need small, small_bucket size (omega arith)) less
  | inr large ↦ (
      let f = log need in
      let it = power_of need large (omega arith) in
      let e = large_rounded need (log need) it in
      let sixteenth' = sixteenth need (log need) it in
      let low = it.low in
      let some = pow_pos (log need - 4) in
      let bound : need + 2 ^ (log need - 4) - 1 < 2 ^ 32 = omega arith in
      rw e (elim (cases_lt size 16) [
        | inl small ↦ (
            let b = power_of (need + 2 ^ (log need - 4) - 1) (omega arith) bound in
            let c = large_bucket (need + 2 ^ (log need - 4) - 1) (log (need + 2 ^ (log need - 4) - 1)) b in
            rw (small_bucket size small) (omega arith))
        | inr large' ↦ (
            let is = power_of size large' (omega arith) in
            let rises = log_rises size need (omega arith) (omega arith) (omega arith) in
            let four' = four size (log size) is in
            let p = power_le (log size - 4) (log need - 4) (omega arith) in
            next_list size (log size) (need + 2 ^ (log need - 4) - 1) is (omega arith) bound)
      ]))
]

tlsf_below : (size : ℕ) → size ≤ 2 ^ 23 → tlsf_bucket size < 336
tlsf_below size le = elim (cases_lt size 16) [
  | inl small ↦ rw (small_bucket size small) (omega arith)
  | inr large ↦ (
      let is = power_of size large (omega arith) in
      let b = large_bucket size (log size) is in
      let few = few_lists size (log size) is in
      let top : log size ≤ 23 = elim (cases_lt 23 (log size)) [
        | inl more ↦ (let p = power_le 24 (log size) (omega arith) in let low = is.low in absurd (omega arith))
        | inr l ↦ l
      ] in
      omega arith)
]

pub tlsf_lawful : AreLawful tlsf 336
tlsf_lawful = record {
  below = λ size some le. tlsf_below size le;
  rising = λ size larger some le top. bucket_rises size larger le (omega arith);
  large_enough = λ size need some le some' le' reached. elim (cases_lt size need) [
    | inl less ↦ (let h = tlsf_large_enough size need le le' less in absurd (omega arith))
    | inr l ↦ l
  ];
}

pub half_fit_lawful : AreLawful half_fit 24
half_fit_lawful = record {
  below = λ size some le. (let r = log_found 31 size (omega arith) (omega arith) in elim (cases_lt 23 (log size)) [
    | inl more ↦ (let p = power_le 24 (log size) (omega arith) in let low = r.0 in absurd (omega arith))
    | inr l ↦ omega arith
  ]);
  rising = λ size larger some le top. log_rises size larger (omega arith) le (omega arith);
  large_enough = λ size need some le some' le' reached. elim (cases_lt size need) [
    | inl less ↦ (
        let no : nat_le need 1 ≡ false = grind (arith, nat_tests) in
        let reached' : log (need - 1) + 1 ≤ log size = rw no at reached in
        let r = log_rises size (need - 1) (omega arith) (omega arith) (omega arith) in
        absurd (omega arith))
    | inr l ↦ l
  ];
}
