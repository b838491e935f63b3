use Rattle.std.proofs.Common.{◌≡◌, ◌<◌, length, sym, arith, get_or, false}
use Rattle.cf_io.specs.Numbers.{is_digit}
use Rattle.cf_io.proofs.Digits.{digits_more, first_passes, first_spell, value_more}
use Rattle.cf_io.proofs.numbers.leading_number.Goals as goal
use Rattle.cf_io.proofs.numbers.leading_number.Goals.{then-digits-test+else-is_ascii_digit, else-digits-test}

pub digits-preserved : goal.digits-preserved
digits-preserved c =
    let h = c.digits.invariant in
    let digit = sym c.if-is_ascii_digit.ensures.value in
    record {
      within = omega arith;
      digits = digits_more _ _ c.digits-test.true digit h.digits;
      value = value_more _ _ _ c.digits-test.true digit h.value;
      small = omega arith;
    }

pub returns-then-value-gt-LARGEST-clause-value : goal.returns-then-value-gt-LARGEST-clause-value
returns-then-value-gt-LARGEST-clause-value c =
    let h = c.digits.invariant in
    let digit = sym c.if-is_ascii_digit.ensures.value in
    first_passes c.args.text.now _ _ (omega arith) (digits_more _ _ c.digits-test.true digit h.digits)
    (value_more _ _ _ c.digits-test.true digit h.value) c.if-value-gt-LARGEST.true

pub returns-clause-value : goal.returns-clause-value
returns-clause-value c =
    let h = c.digits.invariant in
    let ends : c.digits.at < length c.args.text.now → is_digit (get_or c.args.text.now c.digits.at 0) ≡ false = λ inside. elim c.digits-test.branch [
      | then-digits-test+else-is_ascii_digit w ↦ sym w.if-is_ascii_digit.ensures.value
      | else-digits-test w ↦ absurd (let f = w.digits-test.false in omega arith)
    ] in
    first_spell c.args.text.now c.digits.at _ (omega arith) h.within h.digits ends h.value h.small
