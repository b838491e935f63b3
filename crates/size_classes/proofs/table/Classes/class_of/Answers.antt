use Rattle.std.proofs.Common.{arith}
use Rattle.size_classes.proofs.LeastSize.{class_of-none}
use Rattle.size_classes.proofs.table.Classes.class_of.Goals as goal

pub returns-then-words-from-clause-found : goal.returns-then-words-from-clause-found
returns-then-words-from-clause-found c =
    rw (← c.self.view_is) (class_of-none c.self.inside.page_words c.self.inside.sizes.items c.args.bytes c.self.invariant.table.are_sizes
    (omega (arith, c.if-words-from.true)))
