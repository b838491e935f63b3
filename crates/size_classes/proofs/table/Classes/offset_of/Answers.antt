use Rattle.std.proofs.lemmas.Nat.{and_mask}
use Rattle.size_classes.proofs.table.Classes.offset_of.Goals as goal

pub returns : goal.returns
returns c =
    let p = c.self.invariant.power in
    rw (← c.self.view_is, p) (and_mask c.args.address c.self.inside.page_shift)
