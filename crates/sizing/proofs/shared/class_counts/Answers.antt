use Rattle.std.proofs.Common.{◌≢◌, ◌<◌, ap, arith, below_more, get_or-set_other, get_or-set_same, length, length-set, slice_index, ◌∙◌}
use Rattle.sizing.specs.Checks.{paging_with}
use Rattle.sizing.specs.Layout.{declared_between}
use Rattle.sizing.proofs.CheckedPoints.{size_after}
use Rattle.sizing.proofs.Needed.{count_is}
use Rattle.sizing.proofs.shared.class_counts.Goals as goal

pub loop-c-preserved : goal.loop-c-preserved
loop-c-preserved c =
    let k = c.loop-c.invariant in
    let long = k.long in
    let few = c.requires.heap.sized in
    let here = c.loop-c-test.true in
    record {
      long = length-set c.loop-c.counts c.loop-c.c c.count_between.result ∙ k.long;
      below = size_after c.args.heap.now.sizes.now c.loop-c.c;
      made = below_more _ _ (λ i lt. (let ne : i ≢ c.loop-c.c = omega arith in rw get_or-set_other (k.made i lt)))
          (let lt : c.loop-c.c < length c.loop-c.counts = omega arith in
          rw get_or-set_same (c.count_between.ensures.count ∙ ap (λ b. declared_between b (slice_index c.args.heap.now.sizes.now c.loop-c.c) c.args.needs.now) k.below));
    }

pub returns : goal.returns
returns c = λ n lt. c.loop-c.invariant.made n (omega arith) ∙ count_is (paging_with 0 c.args.heap.now) c.requires.heap c.args.needs.now n lt
