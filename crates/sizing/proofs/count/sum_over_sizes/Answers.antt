use Rattle.std.proofs.Common.{◌+◌, ◌*◌, ◌/◌, arith, refl}
use Rattle.sizing.proofs.Needed.{last_counted, size_counted}
use Rattle.sizing.proofs.count.sum_over_sizes.Goals as goal

pub overflow_add-pages : goal.overflow_add-pages
overflow_add-pages c =
    let k = c.sizes.invariant in
    let sum = size_counted c.args.unit c.args.page c.sizes.size ((9 * c.sizes.size + 7) / 8) c.sizes.below c.sizes.pages c.pages_of_size-pages.result _
    c.args.needs.now k.low c.sizes-test.true refl k.sum c.pages_of_size-pages.ensures in
    let low = c.requires.low in
    omega arith

pub sizes-preserved : goal.sizes-preserved
sizes-preserved c =
    let k = c.sizes.invariant in
    record {
      low = (let low = k.low in grind arith);
      sum = size_counted c.args.unit c.args.page c.sizes.size c.div_ceil-size.result c.sizes.below c.sizes.pages c.pages_of_size-pages.result _
          c.args.needs.now k.low c.sizes-test.true (grind arith) k.sum c.pages_of_size-pages.ensures;
    }

pub overflow_add-result : goal.overflow_add-result
overflow_add-result c =
    let k = c.sizes.invariant in
    let sum = last_counted c.args.unit c.args.page c.sizes.size c.sizes.below c.sizes.pages c.pages_of_size.result _ c.args.needs.now c.sizes-test.false k.sum
    c.pages_of_size.ensures in
    let low = c.requires.low in
    omega arith

pub returns : goal.returns
returns c =
    let k = c.sizes.invariant in
    last_counted c.args.unit c.args.page c.sizes.size c.sizes.below c.sizes.pages c.pages_of_size.result _ c.args.needs.now c.sizes-test.false k.sum
    c.pages_of_size.ensures
