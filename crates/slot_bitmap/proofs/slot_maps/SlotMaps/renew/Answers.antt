use Rattle.std.proofs.Common.{arith, refl}
use Rattle.slot_bitmap.proofs.Slots.{all_free, valid_renewed, words_clear}
use Rattle.slot_bitmap.proofs.Pages.{page_in, pages_after, valid_after}
use Rattle.slot_bitmap.proofs.slot_maps.SlotMaps.renew.Goals as goal

pub ones-requires-clause-few : goal.ones-requires-clause-few
ones-requires-clause-few c =
    let a = page_in c.self.invariant (rw (← c.self.view_is) at c.requires.page) in
    let few = rw (← c.self.view_is) at c.requires.few in
    omega (arith, few, a.valid.short, c.div_ceil.ensures)

pub invariant_of-self : goal.invariant_of-self
invariant_of-self c =
    let a = page_in c.self.invariant (rw (← c.self.view_is) at c.requires.page) in
    let read = a.read c.index_mut-summary.ensures.value in
    let none = rw (← c.self.view_is, a.seen) at c.requires.unused in
    rw (c.set.ensures.value, c.set-2.ensures.value, read) (valid_after c.self.invariant a.lt c.self.inside.words refl (λ q j _ _. refl) _
    (valid_renewed _ _ _ a.valid none c.args.slots c.ones.result (rw (← c.self.view_is) at c.requires.few) (rw c.div_ceil.ensures at c.ones.ensures)))

pub returns-clause-value : goal.returns-clause-value
returns-clause-value c =
    let a = page_in c.self.invariant (rw (← c.self.view_is) at c.requires.page) in
    let none = rw (← c.self.view_is, a.seen) at c.requires.unused in
    rw (← c.self.view_is) (pages_after c.self.invariant a.lt c.self.inside.words refl (λ q j _ _. refl) _ _
    (all_free _ _ c.args.slots (rw (← c.self.view_is) at c.requires.few) (words_clear _ _ _ a.valid none)))
