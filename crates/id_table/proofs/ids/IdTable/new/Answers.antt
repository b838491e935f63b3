use Rattle.id_table.proofs.LayoutFacts.{none_live}
use Rattle.id_table.proofs.ids.IdTable.new.Goals as goal

pub invariant_of-result : goal.invariant_of-result
invariant_of-result c = rw c.in-Ok.ensures none_live
