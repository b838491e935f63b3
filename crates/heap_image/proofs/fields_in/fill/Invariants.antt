use Rattle.std.proofs.Common.{◌-◌, ◌≡◌, ◌≤◌, length, take}
use Rattle.heap_image.specs.Feed.{TakesBytes, feed_of}
use Rattle.heap_image.proofs.fields_in.fill.Given as goal

abbrev pub invariant-fills : goal.invariant-fills
invariant-fills g l = record {
  within : l.at ≤ length l.buffer;
  took : TakesBytes (take l.at l.buffer) (feed_of (g.S.Source.state l.initial.source)) (feed_of (g.S.Source.state l.source));
  same : (g.S.Source.state l.source).faults ≡ (g.S.Source.state l.initial.source).faults;
}

abbrev pub decreases-fills : goal.decreases-fills
decreases-fills g l = length l.buffer - l.at
