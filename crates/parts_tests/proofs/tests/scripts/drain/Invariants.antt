use Rattle.std.proofs.Common.{◌≡◌}
use Rattle.parts_tests.proofs.tests.scripts.drain.Given as goal

abbrev pub invariant-asks : goal.invariant-asks
invariant-asks l = l.reader.ended ≡ l.initial.reader.ended
