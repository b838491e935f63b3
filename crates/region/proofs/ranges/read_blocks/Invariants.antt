use Rattle.region.specs.BlockBytes.{HasBytesOf}
use Rattle.region.proofs.ranges.read_blocks.Given as goal

abbrev pub invariant-fours : goal.invariant-fours
invariant-fours l = HasBytesOf l.out l.words l.blocks l.i
