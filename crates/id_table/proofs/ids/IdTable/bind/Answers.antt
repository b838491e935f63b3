use Rattle.std.proofs.Common.{◌<◌, None, length, arith}
use Rattle.std.proofs.lemmas.List.{get_or_read}
use Rattle.id_table.proofs.LayoutFacts.{bound_live, few_live, id_bound}
use Rattle.id_table.proofs.ids.IdTable.bind.Goals as goal

pub overflow_add-self : goal.overflow_add-self
overflow_add-self c = let few = few_live _ _ c.self.invariant in grind (arith, few)

pub invariant_of-self : goal.invariant_of-self
invariant_of-self c =
    let lt : c.args.id < length c.self.inside.numbers.items = omega (arith, c.ranges.id.fits, c.self.invariant.long) in
    let before = get_or_read c.self.inside.numbers.items c.args.id c.index.result.now lt c.index.ensures None in
    bound_live _ _ c.self.invariant c.args.id lt c.args.h.0 c.index.result.now c.is_none-fresh.result before c.is_none-fresh.ensures

pub returns : goal.returns
returns c =
    let lt : c.args.id < length c.self.inside.numbers.items = omega (arith, c.ranges.id.fits, c.self.invariant.long) in
    id_bound _ _ c.self.view_is c.args.id c.args.h.0 lt
