use Rattle.std.proofs.Common.{◌≤◌, ◌-◌, length}
use Rattle.region.specs.Words.{MovesBlocks}
use Rattle.region.proofs.ranges.move_blocks.Given as goal

abbrev pub invariant-fours : goal.invariant-fours
invariant-fours l = record {
  within : l.done ≤ length l.sources;
  words : MovesBlocks l.fn.words l.words l.sources l.targets l.done;
}

abbrev pub decreases-fours : goal.decreases-fours
decreases-fours l = length l.sources - l.done
