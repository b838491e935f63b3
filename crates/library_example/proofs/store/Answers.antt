use Rattle.std.proofs.Common.{arith}
use Rattle.library_example.proofs.Storing.{is_stored}
use Rattle.library_example.proofs.store.Goals as goal

pub returns-clause-made : goal.returns-clause-made
returns-clause-made g c = is_stored _ _ _ _ _ c.write.result c.in_ok-object.ensures.step (omega arith) c.write.ensures.step
