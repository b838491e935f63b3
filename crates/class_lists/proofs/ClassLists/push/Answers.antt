use Rattle.std.proofs.Common.{◌+◌, get_or, arith, sym, ◌∙◌, ap, rules}
use Rattle.std.proofs.Math.ListN.{set}
use Rattle.class_lists.proofs.Views.{list_within, follower_within, room_for_one, counted, pushed}
use Rattle.class_lists.proofs.ClassLists.push.Goals as goal

pub set_both-requires-clause-j_in_range : goal.set_both-requires-clause-j_in_range
set_both-requires-clause-j_in_range c =
    let within = follower_within _ _ _ _ c.self.invariant _ c.self.view_is c.args.c c.args.which _ c.number_of-list.ensures c.requires.class
    c.pass-first.result c.pass-first.ensures.value in
    omega (arith, c.self.invariant.backed)

pub of-len-requires : goal.of-len-requires
of-len-requires c = list_within _ _ _ _ c.self.invariant _ c.self.view_is c.args.c c.args.which c.requires.class

pub put-requires : goal.put-requires
put-requires c = list_within _ _ _ _ c.self.invariant _ c.self.view_is c.args.c c.args.which c.requires.class

pub overflow_add-len : goal.overflow_add-len
overflow_add-len c =
    let room = room_for_one _ _ _ _ c.self.invariant _ c.self.view_is c.args.c c.args.which _ c.number_of-list.ensures c.requires.class
    c.args.page c.requires.page c.requires.unlisted in
    let len = counted _ _ _ _ c.self.invariant _ c.self.view_is c.args.c c.args.which _ c.number_of-list.ensures c.requires.class
    c.of-len.result (c.of-len.ensures ∙ ap (λ k. get_or c.self.inside.lens k 0) (sym c.number_of-list.ensures)) in
    omega (arith, c.self.invariant.nodes, c.self.invariant.few)

pub invariant_of-self : goal.invariant_of-self
invariant_of-self c =
    let all = pushed _ _ _ _ c.self.invariant _ c.self.view_is c.args.c c.args.which _ c.number_of-list.ensures c.requires.class
    c.args.page c.requires.page c.requires.unlisted c.pass-first.result c.of-len.result _ _ _ c.pass-first.ensures.value
    (c.of-len.ensures ∙ ap (λ k. get_or c.self.inside.lens k 0) (sym c.number_of-list.ensures))
    c.pass-first.ensures.cells c.set_both.ensures.cells
    (c.put.ensures ∙ ap (λ k. set c.self.inside.lens k (c.of-len.result + 1)) (sym c.number_of-list.ensures)) in
    all.sound

pub returns : goal.returns
returns c =
    let all = pushed _ _ _ _ c.self.invariant _ c.self.view_is c.args.c c.args.which _ c.number_of-list.ensures c.requires.class
    c.args.page c.requires.page c.requires.unlisted c.pass-first.result c.of-len.result _ _ _ c.pass-first.ensures.value
    (c.of-len.ensures ∙ ap (λ k. get_or c.self.inside.lens k 0) (sym c.number_of-list.ensures))
    c.pass-first.ensures.cells c.set_both.ensures.cells
    (c.put.ensures ∙ ap (λ k. set c.self.inside.lens k (c.of-len.result + 1)) (sym c.number_of-list.ensures)) in
    record { lists = all.lists; list = all.list; others = all.others; kept = all.kept; steps = search rules }
