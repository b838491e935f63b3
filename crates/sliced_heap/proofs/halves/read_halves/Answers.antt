use Rattle.std.proofs.Common.{length, arith, ◌∙◌}
use Rattle.sliced_heap.proofs.TwoParts.{read_two, two_counts}
use Rattle.sliced_heap.proofs.halves.read_halves.Goals as goal

pub returns-clause-bytes : goal.returns-clause-bytes
returns-clause-bytes c =
    let back = c.split_at_mut-low.ensures.back_len in
    let long = c.read_half-2.auto.out in
    read_two c.args.s c.args.at (length c.args.out.now) c.first_bytes-first.result c.args.region.now c.read_half.new.out c.read_half-2.new.out
    c.first_bytes-first.ensures (c.read_half.auto.out ∙ c.split_at_mut-low.ensures.front_len) (omega arith)
    c.read_half.ensures.bytes c.read_half-2.ensures.bytes

pub returns-clause-steps : goal.returns-clause-steps
returns-clause-steps c =
    let back = c.split_at_mut-low.ensures.back_len in
    two_counts c.args.s c.args.at (length c.args.out.now) c.first_bytes-first.result (length c.split_at_mut-low.result.0.now) (length c.split_at_mut-low.result.1.now)
    c.args.steps.now c.read_half.new.steps c.read_half-2.new.steps c.first_bytes-first.ensures c.split_at_mut-low.ensures.front_len (omega arith)
    c.read_half.ensures.steps c.read_half-2.ensures.steps
