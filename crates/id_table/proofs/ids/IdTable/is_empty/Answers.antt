use Rattle.id_table.proofs.LayoutFacts.{none_counted}
use Rattle.id_table.proofs.ids.IdTable.is_empty.Goals as goal

pub returns : goal.returns
returns c = none_counted _ _ c.self.invariant _ c.self.view_is
