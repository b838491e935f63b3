use Rattle.std.proofs.Common.{◌≡◌, false}
use Rattle.parts_tests.proofs.tests.scripts.read.Given as goal

abbrev pub invariant-chunks : goal.invariant-chunks
invariant-chunks l = l.reader.ended ≡ false
