use Rattle.std.proofs.Common.{◌∙◌, arith}
use Rattle.cf_io.proofs.Digits.{whole_none, whole_other}
use Rattle.cf_io.proofs.numbers.number_of.Goals as goal

pub returns-in_err-value : goal.returns-in_err-value
returns-in_err-value c = c.from_residual.ensures ∙ whole_none c.args.text.now c.in_err-value.ensures.value

pub returns-else-digits-text : goal.returns-else-digits-text
returns-else-digits-text c =
    let within = c.in_ok-value.ensures.within in
    whole_other c.args.text.now _ _ c.in_ok-value.ensures.value (let e = c.if-digits-text.false in omega arith)
