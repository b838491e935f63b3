use Rattle.class_lists.proofs.Views.{apart}
use Rattle.class_lists.proofs.ClassLists.len.Goals as goal

pub returns-clause-kept : goal.returns-clause-kept
returns-clause-kept c = apart _ _ _ _ c.self.invariant _ c.self.view_is
