use Rattle.std.proofs.Common.{◌≡◌}
use Rattle.cf_base.specs.declared.kind.Kind.TheVariants.{Moving}
use Rattle.heap_tests.proofs.tests.saved.images_are_as_worked_out_by_hand.Given as goal

abbrev pub invariant-rows : goal.invariant-rows
invariant-rows g l = l.heap.state.kind ≡ Moving
