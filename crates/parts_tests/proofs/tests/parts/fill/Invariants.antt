use Rattle.std.proofs.Common.{◌≡◌, length}
use Rattle.parts_tests.proofs.tests.parts.fill.Given as goal

abbrev pub invariant-loop-i : goal.invariant-loop-i
invariant-loop-i l = length l.maps.pages ≡ length l.initial.maps.pages
