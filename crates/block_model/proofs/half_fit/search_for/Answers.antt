use Rattle.std.proofs.Common.{◌≡◌, ◌-◌, false, arith}
use Rattle.std.specs.Prelude.{nat_le}
use Rattle.std.proofs.lemmas.Bool.Decides.{nat_tests}
use Rattle.block_model.proofs.Logs.{log_is}
use Rattle.block_model.proofs.half_fit.search_for.Goals as goal

pub returns : goal.returns
returns c =
    let no : nat_le c.args.need 1 ≡ false = grind (arith, nat_tests) in
    let e = log_is 31 (c.args.need - 1) c.ilog2.result (omega arith) (omega arith) (omega arith) in
    rw (no, e) (omega arith)
