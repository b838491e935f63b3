use Rattle.std.proofs.Common.{arith, length, slice_index}
use Rattle.cf_base.proofs.Ranges.{sum_at_least}
use Rattle.sizing.proofs.budget_certificate.are_least.Goals as goal

pub affords-requires-clause-few : goal.affords-requires-clause-few
affords-requires-clause-few c = λ i lt. (
    let all = c.if-sum_of-pages.false in
    let sum = c.sum_of.ensures in
    let few = c.requires.few in
    let one = sum_at_least (slice_index c.args.opened.now) 0 (length c.args.opened.now) i (omega arith) (omega arith) in
    omega arith)
