use Rattle.std.proofs.Common.{◌<◌, None, length, arith}
use Rattle.std.proofs.lemmas.List.{get_or_read}
use Rattle.id_table.proofs.LayoutFacts.{freed_live, id_freed, some_to_free}
use Rattle.id_table.proofs.ids.IdTable.unbind.Goals as goal

pub overflow_sub-self : goal.overflow_sub-self
overflow_sub-self c =
    let lt : c.args.id < length c.self.inside.numbers.items = omega (arith, c.ranges.id.fits, c.self.invariant.long) in
    let before = get_or_read c.self.inside.numbers.items c.args.id c.index.result.now lt c.index.ensures None in
    rw c.is_some-gone.ensures (some_to_free _ _ c.self.invariant c.args.id lt c.index.result.now before)

pub invariant_of-self : goal.invariant_of-self
invariant_of-self c =
    let lt : c.args.id < length c.self.inside.numbers.items = omega (arith, c.ranges.id.fits, c.self.invariant.long) in
    let before = get_or_read c.self.inside.numbers.items c.args.id c.index.result.now lt c.index.ensures None in
    rw c.is_some-gone.ensures (freed_live _ _ c.self.invariant c.args.id lt c.index.result.now before)

pub returns : goal.returns
returns c =
    let lt : c.args.id < length c.self.inside.numbers.items = omega (arith, c.ranges.id.fits, c.self.invariant.long) in
    id_freed _ _ c.self.view_is c.args.id lt
