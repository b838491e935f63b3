use Rattle.std.proofs.Common.{◌-◌, sym, arith}
use Rattle.std.proofs.lemmas.Nat.{one_shl}
use Rattle.block_model.proofs.BucketLaws.{IsPower, four, sixteenth, small_rounded, large_rounded}
use Rattle.block_model.proofs.tlsf.rounded_up.Goals as goal

pub returns-then-need-lt16-clause-value : goal.returns-then-need-lt16-clause-value
returns-then-need-lt16-clause-value c = sym (small_rounded c.args.need c.if-need-lt16.true)

pub overflow_sub-result : goal.overflow_sub-result
overflow_sub-result c = four c.args.need c.ilog2.result (record { large = omega arith; low = omega arith; high = omega arith; top = omega arith })

pub returns-clause-value : goal.returns-clause-value
returns-clause-value c =
    let is : IsPower c.args.need c.ilog2.result = record { large = omega arith; low = omega arith; high = omega arith; top = omega arith } in
    rw (one_shl (c.ilog2.result - 4) 32 (omega arith)) (sym (large_rounded c.args.need c.ilog2.result is))

-- rounding up adds at most a sixteenth of the need
pub returns-clause-within : goal.returns-clause-within
returns-clause-within c =
    let is : IsPower c.args.need c.ilog2.result = record { large = omega arith; low = omega arith; high = omega arith; top = omega arith } in
    let e = sixteenth c.args.need c.ilog2.result is in
    rw (one_shl (c.ilog2.result - 4) 32 (omega arith)) (omega arith)
