use Rattle.std.proofs.Common.{◌*◌, ◌+◌, set, arith, sym, ap, ◌∙◌}
use Rattle.class_lists.proofs.Pairs.{class_inside, set_first, set_second}
use Rattle.class_lists.proofs.counts.Counts.put.Goals as goal

pub index_mut-requires : goal.index_mut-requires
index_mut-requires c = omega (arith, class_inside _ _ _ c.self.view_is c.args.c c.args.which c.requires)

pub index_mut-requires-in-NotFull : goal.index_mut-requires-in-NotFull
index_mut-requires-in-NotFull c = omega (arith, class_inside _ _ _ c.self.view_is c.args.c c.args.which c.requires, c.self.invariant)

pub returns-in-Full : goal.returns-in-Full
returns-in-Full c =
    rw c.in-Full.is (sym (set_first c.self.inside.full.items c.self.inside.not_full.items c.args.c c.args.len)
    ∙ ap (λ xs. set xs (2 * c.args.c) c.args.len) c.self.view_is)

pub returns-in-NotFull : goal.returns-in-NotFull
returns-in-NotFull c =
    let inside = class_inside _ _ _ c.self.view_is c.args.c c.args.which c.requires in
    rw c.in-NotFull.is (sym (set_second c.self.inside.full.items c.self.inside.not_full.items c.args.c c.args.len c.self.invariant inside)
    ∙ ap (λ xs. set xs (2 * c.args.c + 1) c.args.len) c.self.view_is)
