use Rattle.std.proofs.Common.{sym, arith}
use Rattle.block_model.proofs.Logs.{log_is}
use Rattle.block_model.proofs.half_fit.bucket_of.Goals as goal

-- the logarithm of a u32 is below 32
pub returns : goal.returns
returns c = sym (log_is 31 c.args.size c.ilog2.result (omega arith) (omega arith) (omega arith))
