use Rattle.std.proofs.Common.{◌*◌, ◌+◌, get_or, arith, sym, ap, ◌∙◌}
use Rattle.std.proofs.lemmas.List.{get_or_read}
use Rattle.class_lists.proofs.Pairs.{class_inside, at_first, at_second}
use Rattle.class_lists.proofs.counts.Counts.of.Goals as goal

pub index-requires : goal.index-requires
index-requires c = omega (arith, class_inside _ _ _ c.self.view_is c.args.c c.args.which c.requires)

pub index-requires-in-NotFull : goal.index-requires-in-NotFull
index-requires-in-NotFull c = omega (arith, class_inside _ _ _ c.self.view_is c.args.c c.args.which c.requires, c.self.invariant)

pub returns-in-Full : goal.returns-in-Full
returns-in-Full c =
    let inside = class_inside _ _ _ c.self.view_is c.args.c c.args.which c.requires in
    rw c.in-Full.is (
    get_or_read c.self.inside.full.items c.args.c c.index.result.now inside c.index.ensures 0
    ∙ sym (at_first c.self.inside.full.items c.self.inside.not_full.items c.args.c 0)
    ∙ ap (λ xs. get_or xs (2 * c.args.c) 0) c.self.view_is)

pub returns-in-NotFull : goal.returns-in-NotFull
returns-in-NotFull c =
    let inside = class_inside _ _ _ c.self.view_is c.args.c c.args.which c.requires in
    rw c.in-NotFull.is (
    get_or_read c.self.inside.not_full.items c.args.c c.index-in-NotFull.result.now (omega (arith, inside, c.self.invariant)) c.index-in-NotFull.ensures 0
    ∙ sym (at_second c.self.inside.full.items c.self.inside.not_full.items c.args.c 0 inside)
    ∙ ap (λ xs. get_or xs (2 * c.args.c + 1) 0) c.self.view_is)
