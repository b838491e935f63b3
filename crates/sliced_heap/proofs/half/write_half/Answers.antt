use Rattle.std.proofs.Common.{◌+◌, ◌/◌, ◌%◌, subst}
use Rattle.region.specs.Overwriting.{Overwrites}
use Rattle.sliced_heap.proofs.OnePart.{part_writes}
use Rattle.sliced_heap.proofs.half.write_half.Goals as goal

pub returns-clause-bytes : goal.returns-clause-bytes
returns-clause-bytes c =
    part_writes c.args.region.now c.write_run.new.region c.args.place c.args.at c.args.bytes.now c.if-len-eq0.false
    (subst (λ m. Overwrites c.args.region.now c.write_run.new.region (record { from = c.args.place + 1 + c.args.at / 8; count = m })
    (c.args.at % 8) c.args.bytes.now)
    c.words_with-count.ensures c.write_run.ensures.words)
