-- For `count_rising`: the sizes counted so far, and those from the next size on, are all sizes.
use Rattle.std.proofs.Common.{arith}
use Rattle.cf_base.proofs.Sizes.{count_next, count_last}
use Rattle.cf_base.proofs.classes.count_rising.Goals as goal

pub counted-preserved : goal.counted-preserved
counted-preserved c = record {
  low = omega (arith, c.counted.invariant.low);
  few = omega (arith, c.counted.invariant.low, c.counted.invariant.few);
  counted = count_next c.counted.size c.size_after-size.result c.args.page c.counted.count _ (omega (arith, c.counted.invariant.low)) c.counted-test.true
      (grind arith) c.counted.invariant.counted;
}

pub returns : goal.returns
returns c = count_last c.counted.size c.args.page c.counted.count _ c.counted-test.false c.counted.invariant.counted
