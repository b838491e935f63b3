use Rattle.id_table.proofs.LayoutFacts.{within}
use Rattle.id_table.proofs.ids.IdTable.live.Goals as goal

pub returns-clause-kept : goal.returns-clause-kept
returns-clause-kept c = within _ _ c.self.view_is c.self.invariant.long
