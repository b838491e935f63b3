use Rattle.std.proofs.Common.{arith, slice_index}
use Rattle.cf_base.proofs.Ranges.{sum_next}
use Rattle.sizing.proofs.points.pages_of.Goals as goal

pub loop-c-preserved : goal.loop-c-preserved
loop-c-preserved c =
    let k = c.loop-c.invariant in
    let n = sum_next (slice_index c.args.x.now.pages) c.loop-c.c c.args.classes c.loop-c-test.true in
    record { small = (let s = k.small in omega arith); rest = (let r = k.rest in omega arith) }
