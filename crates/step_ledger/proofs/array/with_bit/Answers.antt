use Rattle.std.proofs.Common.{arith, w64, sym, ◌∙◌, ◌<◌, ◌^◌, ◌*◌, ◌%◌}
use Rattle.std.proofs.lemmas.Bool.{cond-true, cond-false}
use Rattle.std.proofs.lemmas.Nat.{or_lt, one_shl, pow_below}
use Rattle.std.proofs.lemmas.Nat.Bits.{bit_at_set_same, bit_at_set_other, bit_at_clear_same, bit_at_clear_other}
use Rattle.step_ledger.proofs.array.with_bit.Goals as goal

pub returns-then-on-clause-written : goal.returns-then-on-clause-written
returns-then-on-clause-written c = record {
  at = bit_at_set_same w64 c.args.word c.args.bit c.requires ∙ sym (cond-true c.args.on 1 0 c.if-on.true);
  others = λ k _ ne. bit_at_set_other w64 c.args.word c.args.bit c.requires k ne;
}

pub returns-then-on-clause-within : goal.returns-then-on-clause-within
returns-then-on-clause-within c n lt below =
    let small : 1 * 2 ^ c.args.bit % 2 ^ 64 < 2 ^ n = omega (arith, one_shl c.args.bit 64 c.requires, pow_below c.args.bit n lt) in
    or_lt n _ _ below small

pub returns-else-on-clause-written : goal.returns-else-on-clause-written
returns-else-on-clause-written c = record {
  at = bit_at_clear_same w64 c.args.word c.args.bit c.requires ∙ sym (cond-false c.args.on 1 0 c.if-on.false);
  others = λ k lt ne. bit_at_clear_other w64 c.args.word c.args.bit c.requires k lt ne;
}
