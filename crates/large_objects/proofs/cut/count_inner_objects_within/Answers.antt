use Rattle.std.proofs.Common.{◌-◌, arith}
use Rattle.large_objects.proofs.Cutting.{part_inside, two_parts}
use Rattle.large_objects.proofs.Fitting.{long_at, short_at}
use Rattle.large_objects.proofs.cut.count_inner_objects_within.Goals as goal

pub returns-then-bytes-part_bytes : goal.returns-then-bytes-part_bytes
returns-then-bytes-part_bytes c = short_at c.args.part_bytes c.args.bytes c.args.words _ _ c.requires.some (omega arith) c.is_within.ensures c.count_if.ensures

pub overflow_sub-last : goal.overflow_sub-last
overflow_sub-last c = (let two = two_parts c.args.part_bytes c.args.bytes c.requires.some (omega arith) in let e = c.count_parts-count.ensures in omega arith)

pub overflow_mul-last : goal.overflow_mul-last
overflow_mul-last c =
    let two = two_parts c.args.part_bytes c.args.bytes c.requires.some (omega arith) in
    let e = c.count_parts-count.ensures in
    let inside = part_inside c.args.part_bytes c.args.bytes c.requires.some (c.count_parts-count.result - 1) (omega arith) in omega arith

pub overflow_sub-last-2 : goal.overflow_sub-last-2
overflow_sub-last-2 c =
    let two = two_parts c.args.part_bytes c.args.bytes c.requires.some (omega arith) in
    let e = c.count_parts-count.ensures in
    let inside = part_inside c.args.part_bytes c.args.bytes c.requires.some (c.count_parts-count.result - 1) (omega arith) in omega arith

pub overflow_sub-count : goal.overflow_sub-count
overflow_sub-count c = (let two = two_parts c.args.part_bytes c.args.bytes c.requires.some (omega arith) in let e = c.count_parts-count.ensures in omega arith)

pub returns : goal.returns
returns c = long_at c.args.part_bytes c.args.bytes c.args.words c.count_parts-count.result _ _ _ _ _ _ c.requires.some (omega arith) c.count_parts-count.ensures
    c.is_within-2.ensures c.is_within-3.ensures c.is_within-4.ensures c.count_if-spine.ensures c.count_if-whole.ensures c.count_if-2.ensures
