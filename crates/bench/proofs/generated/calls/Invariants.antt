use Rattle.std.proofs.Common.{IsTrue}
use Rattle.bench.proofs.generated.calls.Given as goal

abbrev pub invariant-loop-i : goal.invariant-loop-i
invariant-loop-i g l = IsTrue (g.H.Manager.state l.heap).is_open
