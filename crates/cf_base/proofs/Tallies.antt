-- For the counts of live objects by class: each entry of a list of counts after one of them rose or fell by one.
use Rattle.std.proofs.Common.{◌≡◌, ℕ, ◌+◌, ◌-◌, ◌<◌, ◌≤◌, List, length, get_or, set, arith, sym, ap, inl, inr}
use Rattle.std.specs.Prelude.{nat_eq}
use Rattle.std.proofs.lemmas.Bool.{cases_eq}
use Rattle.std.proofs.lemmas.List.{get_or-set_same, get_or-set_other}
use Rattle.cf_base.proofs.Ranges.{one}
use Rattle.cf_base.proofs.Tests.{eq_no, eq_yes}

module _ (counts : List ℕ) (c d : ℕ) (lt : c < length counts) where
  pub counted_in : get_or (set counts c (get_or counts c 0 + 1)) d 0 ≡ get_or counts d 0 + one (nat_eq c d)
  counted_in = elim (cases_eq d c) [
    | inl is ↦ (
        let here : get_or (set counts c (get_or counts c 0 + 1)) d 0 ≡ get_or counts d 0 + 1 = rw is (get_or-set_same counts c (get_or counts c 0 + 1) 0 lt) in
        let y : one (nat_eq c d) ≡ 1 = ap one (eq_yes c d (sym is)) in
        omega arith)
    | inr ne ↦ (
        let here = get_or-set_other counts c d (get_or counts c 0 + 1) 0 ne in
        let y : one (nat_eq c d) ≡ 0 = ap one (eq_no c d (λ e. ne (sym e))) in
        omega arith)
  ]

  pub counted_out : 1 ≤ get_or counts c 0 → get_or (set counts c (get_or counts c 0 - 1)) d 0 + one (nat_eq c d) ≡ get_or counts d 0
  counted_out some = elim (cases_eq d c) [
    | inl is ↦ (
        let here : get_or (set counts c (get_or counts c 0 - 1)) d 0 ≡ get_or counts d 0 - 1 = rw is (get_or-set_same counts c (get_or counts c 0 - 1) 0 lt) in
        let same : get_or counts d 0 ≡ get_or counts c 0 = ap (λ i. get_or counts i 0) is in
        let y : one (nat_eq c d) ≡ 1 = ap one (eq_yes c d (sym is)) in
        omega arith)
    | inr ne ↦ (
        let here = get_or-set_other counts c d (get_or counts c 0 - 1) 0 ne in
        let y : one (nat_eq c d) ≡ 0 = ap one (eq_no c d (λ e. ne (sym e))) in
        omega arith)
  ]
