use Rattle.std.proofs.Common.{arith, slice_index}
use Rattle.sizing.specs.Certificates.{pages_with_copy}
use Rattle.sizing.specs.Checks.{paging_with}
use Rattle.cf_base.proofs.Ranges.{sum_next}
use Rattle.sizing.proofs.resizes.pages_of_copies.Goals as goal

pub loop-e-preserved : goal.loop-e-preserved
loop-e-preserved c =
    let k = c.loop-e.invariant in
    let n = sum_next (λ i. pages_with_copy (paging_with 0 c.args.heap.now) c.args.c c.args.d i (slice_index c.args.x.now.pages i) (slice_index c.args.counts.now.kept i)
    (slice_index c.args.counts.now.before i) (slice_index c.args.counts.now.after i)) c.loop-e.e _ c.loop-e-test.true in
    record { small = (let s = k.small in omega arith); rest = (let r = k.rest in omega arith) }
