use Rattle.std.proofs.Common.{ap, arith, refl, true}
use Rattle.std.proofs.lemmas.List.{length-set}
use Rattle.slot_bitmap.specs.declared.page_summary.PageSummary.{PageSummary}
use Rattle.slot_bitmap.proofs.Slots.{valid_set, written}
use Rattle.slot_bitmap.proofs.Pages.{apart, at_slot, here, others, pages_after, valid_after}
use Rattle.slot_bitmap.proofs.slot_maps.SlotMaps.set.Goals as goal

pub write_bit-word-requires-clause-cell : goal.write_bit-word-requires-clause-cell
write_bit-word-requires-clause-cell c = (let s = at_slot c.self.invariant (rw (← c.self.view_is) at c.requires) in s.page.cell _ s.word)

pub overflow_sub-summary : goal.overflow_sub-summary
overflow_sub-summary c =
    let s = at_slot c.self.invariant (rw (← c.self.view_is) at c.requires) in
    let read = ap (λ (s : PageSummary). s.slots) (s.page.read c.index_mut-summary.ensures.value) in
    omega (arith, s.inside, read)

pub ones-full-requires-clause-some : goal.ones-full-requires-clause-some
ones-full-requires-clause-some c =
    let s = at_slot c.self.invariant (rw (← c.self.view_is) at c.requires) in
    let read = ap (λ (s : PageSummary). s.slots) (s.page.read c.index_mut-summary.ensures.value) in
    omega (arith, s.inside, read, c.min.ensures)

pub overflow_add-summary : goal.overflow_add-summary
overflow_add-summary c =
    let s = at_slot c.self.invariant (rw (← c.self.view_is) at c.requires) in
    let read = ap (λ (s : PageSummary). s.used) (s.page.read c.index_mut-summary.ensures.value) in
    omega (arith, s.page.within, read)

pub invariant_of-self : goal.invariant_of-self
invariant_of-self c =
    let s = at_slot c.self.invariant (rw (← c.self.view_is) at c.requires) in
    let read = s.page.read c.index_mut-summary.ensures.value in
    let word = c.write_bit-word.ensures in
    let free = rw read at c.write_bit.ensures in
    let used = rw read at c.write_bit-2.ensures in
    rw (word.cells, read) (valid_after c.self.invariant s.page.lt _ (length-set _ _ _) (apart s.page _ _ s.word) _
    (valid_set _ _ _ _ _ _ _ _ _ _ s.page.valid refl refl (here s.page _ _ s.word) (others s.page _ _ s.word) word.within free.within used.within
    _ s.was word.written (rw (c.min.ensures, read) at c.ones-full.ensures) free.written used.written))

pub returns-clause-value : goal.returns-clause-value
returns-clause-value c =
    let s = at_slot c.self.invariant (rw (← c.self.view_is) at c.requires) in
    let read = s.page.read c.index_mut-summary.ensures.value in
    let word = c.write_bit-word.ensures in
    rw (word.cells, ← c.self.view_is, read, s.page.seen) (pages_after c.self.invariant s.page.lt _ (length-set _ _ _) (apart s.page _ _ s.word) _ _
    (written _ _ _ _ _ _ _ true s.inside refl refl (here s.page _ _ s.word) (others s.page _ _ s.word) word.written))
