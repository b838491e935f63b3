use Rattle.std.proofs.Common.{arith}
use Rattle.size_classes.proofs.LeastSize.{IsLeast, next_size, shown_more}
use Rattle.size_classes.proofs.needs.classes_by_need.Goals as goal
use Rattle.size_classes.proofs.needs.classes_by_need.Goals.{then-sizes-class, else-sizes-class}

-- the class of this need is that of the last one or the next class
pub needs-preserved : goal.needs-preserved
needs-preserved c =
    let was = c.needs.invariant in
    let less = c.needs-test.true in
    let sizes = c.args.sizes.now in
    let least : IsLeast sizes c.needs.need c.if-sizes-class.class = elim c.if-sizes-class.branch [
      | then-sizes-class w ↦ rw w.class-is (next_size c.args.page_words sizes c.needs.need c.needs.class c.requires.are_sizes (omega arith) was.inside
          was.below was.large w.if-sizes-class.true)
      | else-sizes-class w ↦ rw w.class-is (record { inside = was.inside; below = was.below; large = w.if-sizes-class.false })
    ] in
    let long = was.long in
    record {
      within = omega arith;
      long = search arith;
      shown = rw c.in_ok-push.ensures.items (shown_more sizes c.needs.by_need.items c.needs.need c.if-sizes-class.class was.long was.shown least);
      inside = least.inside;
      below = λ k lt. (let b = least.below k lt in omega arith);
      large = (let l = least.large in omega arith);
    }
