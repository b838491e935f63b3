use Rattle.std.proofs.Common.{◌+◌, length, take, drop, arith, ◌∙◌, ap, subst}
use Rattle.sliced_heap.specs.Halves.{first_bytes}
use Rattle.sliced_heap.specs.Writes.{WritesByPlaces, word_from}
use Rattle.sliced_heap.proofs.TwoParts.{two_counts, two_parts}
use Rattle.sliced_heap.proofs.halves.write_halves.Goals as goal

pub returns-clause-bytes : goal.returns-clause-bytes
returns-clause-bytes c =
    let s = c.args.s in let at = c.args.at in let bytes = c.args.bytes.now in
    let e = c.first_bytes-first.ensures in
    let n = first_bytes c.args.s c.args.at (length c.args.bytes.now) in
    let low : WritesByPlaces c.args.region.now c.write_half.new.region (word_from s.to) at (take n bytes) =
    subst (WritesByPlaces c.args.region.now c.write_half.new.region (word_from s.to) at) (c.split_at.ensures.front ∙ ap (λ n. take n bytes) e)
    c.write_half.ensures.bytes in
    let high : WritesByPlaces c.write_half.new.region c.write_half-2.new.region (word_from s.from) (at + n) (drop n bytes) =
    subst (WritesByPlaces c.write_half.new.region c.write_half-2.new.region (word_from s.from) (at + n)) (c.split_at.ensures.back ∙ ap (λ n. drop n bytes) e)
    (subst (λ n. WritesByPlaces c.write_half.new.region c.write_half-2.new.region (word_from s.from) (at + n) c.split_at.result.1.now) e
    c.write_half-2.ensures.bytes) in
    two_parts s at bytes c.requires.apart c.args.region.now c.write_half.new.region c.write_half-2.new.region low high

pub returns-clause-steps : goal.returns-clause-steps
returns-clause-steps c =
    let back = c.split_at.ensures.back_len in
    two_counts c.args.s c.args.at (length c.args.bytes.now) c.first_bytes-first.result (length c.split_at.result.0.now) (length c.split_at.result.1.now)
    c.args.steps.now c.write_half.new.steps c.write_half-2.new.steps c.first_bytes-first.ensures c.split_at.ensures.front_len (omega arith)
    c.write_half.ensures.steps c.write_half-2.ensures.steps
