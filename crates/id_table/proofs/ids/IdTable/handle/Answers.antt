use Rattle.std.proofs.Common.{◌<◌, ◌∙◌, None, length, arith, sym}
use Rattle.std.proofs.lemmas.List.{get_or_read}
use Rattle.id_table.proofs.LayoutFacts.{handle_at, within}
use Rattle.id_table.proofs.ids.IdTable.handle.Goals as goal

pub returns-in-Some-clause-found : goal.returns-in-Some-clause-found
returns-in-Some-clause-found c =
    let lt : c.args.id < length c.self.inside.numbers.items = omega (arith, c.ranges.id.fits, c.self.invariant.long) in
    sym c.in-Some.is ∙ get_or_read c.self.inside.numbers.items c.args.id c.index.result.now lt c.index.ensures None
    ∙ sym (handle_at _ _ c.self.view_is c.args.id)

pub returns-in-Some-clause-kept : goal.returns-in-Some-clause-kept
returns-in-Some-clause-kept c = within _ _ c.self.view_is c.self.invariant.long

pub returns-in-None-clause-found : goal.returns-in-None-clause-found
returns-in-None-clause-found c =
    let lt : c.args.id < length c.self.inside.numbers.items = omega (arith, c.ranges.id.fits, c.self.invariant.long) in
    sym c.in-None.is ∙ get_or_read c.self.inside.numbers.items c.args.id c.index.result.now lt c.index.ensures None
    ∙ sym (handle_at _ _ c.self.view_is c.args.id)

pub returns-in-None-clause-kept : goal.returns-in-None-clause-kept
returns-in-None-clause-kept c = within _ _ c.self.view_is c.self.invariant.long
