use Rattle.std.proofs.Common.{◌≤◌, ◌-◌, length}
use Rattle.region.specs.Words.{ClearsBlocks}
use Rattle.region.proofs.ranges.clear_blocks.Given as goal

abbrev pub invariant-fours : goal.invariant-fours
invariant-fours l = record {
  within : l.done ≤ length l.blocks;
  words : ClearsBlocks l.fn.words l.words l.blocks l.done;
}

abbrev pub decreases-fours : goal.decreases-fours
decreases-fours l = length l.blocks - l.done
