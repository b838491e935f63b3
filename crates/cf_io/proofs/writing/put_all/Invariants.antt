use Rattle.std.proofs.Common.{length, ◌-◌, ◌≤◌, take}
use Rattle.cf_io.specs.Feeds.{WritesAll}
use Rattle.cf_io.proofs.writing.put_all.Given as goal

abbrev pub invariant-rest : goal.invariant-rest
invariant-rest g l = record {
  within : l.at ≤ length l.bytes;
  wrote : WritesAll (g.K.Sink.state l.initial.sink) (take l.at l.bytes) (g.K.Sink.state l.sink);
}

abbrev pub decreases-rest : goal.decreases-rest
decreases-rest g l = length l.bytes - l.at
