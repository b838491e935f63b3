use Rattle.top_call.specs.SideBySide.{AreFresh}
use Rattle.top_call.proofs.sessions.Sessions.start.Given as goal

abbrev pub invariant-loop-i : goal.invariant-loop-i
invariant-loop-i l = AreFresh l._i l.each.items
