use Rattle.region.specs.BlockBytes.{WritesBlocks}
use Rattle.region.proofs.ranges.write_blocks.Given as goal

abbrev pub invariant-fours : goal.invariant-fours
invariant-fours l = WritesBlocks l.fn.words l.words l.blocks l.bytes l.i
