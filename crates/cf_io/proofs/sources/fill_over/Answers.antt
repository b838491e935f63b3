use Rattle.std.proofs.Common.{arith}
use Rattle.cf_io.proofs.Looping.{begins_again, goes_on_inside, loops_more}
use Rattle.cf_io.proofs.sources.fill_over.Goals as goal

pub copies-preserved-then-next-pattern : goal.copies-preserved-then-next-pattern
copies-preserved-then-next-pattern c =
    let h = c.copies.invariant in
    record {
      inside = omega arith;
      within = omega arith;
      goes_on = begins_again _ _ _ _ _ h.goes_on c.if-next-pattern.true;
      loops = loops_more _ _ _ _ _ _ _ h.goes_on (omega arith) (omega arith) c.copy_part.ensures h.loops;
    }

pub copies-preserved : goal.copies-preserved
copies-preserved c =
    let h = c.copies.invariant in
    record {
      inside = omega arith;
      within = omega arith;
      goes_on = goes_on_inside _ _ _ _ _ h.goes_on (omega arith);
      loops = loops_more _ _ _ _ _ _ _ h.goes_on (omega arith) (omega arith) c.copy_part.ensures h.loops;
    }
