use Rattle.std.proofs.Common.{sym, arith}
use Rattle.std.proofs.lemmas.Nat.{one_shl}
use Rattle.block_model.proofs.BucketLaws.{IsPower, four, small_bucket, large_bucket}
use Rattle.block_model.proofs.tlsf.bucket_of.Goals as goal

pub returns-then-size-lt16 : goal.returns-then-size-lt16
returns-then-size-lt16 c = sym (small_bucket c.args.size c.if-size-lt16.true)

-- a size of at least 16 has a logarithm of at least 4
pub overflow_sub-result : goal.overflow_sub-result
overflow_sub-result c = four c.args.size c.ilog2-power.result (record { large = omega arith; low = omega arith; high = omega arith; top = omega arith })

pub overflow_sub-result-3 : goal.overflow_sub-result-3
overflow_sub-result-3 c = four c.args.size c.ilog2-power.result (record { large = omega arith; low = omega arith; high = omega arith; top = omega arith })

pub returns : goal.returns
returns c =
    let is : IsPower c.args.size c.ilog2-power.result = record { large = omega arith; low = omega arith; high = omega arith; top = omega arith } in
    rw (one_shl c.ilog2-power.result 32 (omega arith)) (sym (large_bucket c.args.size c.ilog2-power.result is))
