use Rattle.std.proofs.Common.{ap, arith, sym, ◌∙◌}
use Rattle.std.proofs.lemmas.List.{length-set}
use Rattle.slot_bitmap.specs.declared.page_summary.PageSummary.{PageSummary}
use Rattle.slot_bitmap.proofs.Slots.{free_at, free_start, free_word, found_free, has_room, no_free, valid_set, written}
use Rattle.slot_bitmap.proofs.Pages.{apart, at_slot, here, others, page_in, pages_after, valid_after}
use Rattle.slot_bitmap.proofs.slot_maps.SlotMaps.take_first.Goals as goal

pub returns-then-free-eq0-clause-found : goal.returns-then-free-eq0-clause-found
returns-then-free-eq0-clause-found c =
    let a = page_in c.self.invariant (rw (← c.self.view_is) at c.requires) in
    let read = ap (λ (s : PageSummary). s.with_free) (a.read c.index_mut-summary.ensures.value) in
    rw (← c.self.view_is, a.seen) (sym (no_free _ _ _ a.valid (sym read ∙ sym c.lend-free.ensures.value ∙ c.if-free-eq0.true)))

pub set_least_clear-bit-requires : goal.set_least_clear-bit-requires
set_least_clear-bit-requires c =
    let a = page_in c.self.invariant (rw (← c.self.view_is) at c.requires) in
    let read = ap (λ (s : PageSummary). s.with_free) (a.read c.index_mut-summary.ensures.value) in
    let at = rw (c.lend-free.ensures.value, read) at c.lowest_set-at.ensures in
    record { cell = a.cell _ (free_word _ _ _ a.valid _ at.at); clear = has_room _ _ _ a.valid _ at.at }

pub overflow_sub-summary : goal.overflow_sub-summary
overflow_sub-summary c =
    let a = page_in c.self.invariant (rw (← c.self.view_is) at c.requires) in
    let read = a.read c.index_mut-summary.ensures.value in
    let on = rw (c.lend-free.ensures.value, read) at c.lowest_set-at.ensures.at in
    omega (arith, free_start _ _ _ a.valid _ on, ap (λ (s : PageSummary). s.slots) read)

pub ones-full-requires-clause-some : goal.ones-full-requires-clause-some
ones-full-requires-clause-some c =
    let a = page_in c.self.invariant (rw (← c.self.view_is) at c.requires) in
    let read = a.read c.index_mut-summary.ensures.value in
    let on = rw (c.lend-free.ensures.value, read) at c.lowest_set-at.ensures.at in
    omega (arith, free_start _ _ _ a.valid _ on, ap (λ (s : PageSummary). s.slots) read, c.min.ensures)

pub overflow_add-summary : goal.overflow_add-summary
overflow_add-summary c =
    let a = page_in c.self.invariant (rw (← c.self.view_is) at c.requires) in
    omega (arith, a.within, ap (λ (s : PageSummary). s.used) (a.read c.index_mut-summary.ensures.value))

pub returns-clause-found : goal.returns-clause-found
returns-clause-found c =
    let a = page_in c.self.invariant (rw (← c.self.view_is) at c.requires) in
    let read = ap (λ (s : PageSummary). s.with_free) (a.read c.index_mut-summary.ensures.value) in
    let at = rw (c.lend-free.ensures.value, read) at c.lowest_set-at.ensures in
    let bit = c.set_least_clear-bit.ensures in
    rw (← c.self.view_is, a.seen) (free_at _ _ _ a.valid _ at.at _ bit.bit at.below bit.at bit.below)

pub returns-clause-free : goal.returns-clause-free
returns-clause-free c =
    let is = returns-clause-found c in
    rw (← c.self.view_is) (found_free _ _ (rw (← c.self.view_is) at is))

pub invariant_of-self-2 : goal.invariant_of-self-2
invariant_of-self-2 c =
    let s = at_slot c.self.invariant (rw (← c.self.view_is) at (returns-clause-free c)) in
    let read = s.page.read c.index_mut-summary.ensures.value in
    let at = rw (c.lend-free.ensures.value, read) at c.lowest_set-at.ensures in
    let short = free_word _ _ _ s.page.valid _ at.at in
    let bit = c.set_least_clear-bit.ensures in
    let free = rw (c.lend-free.ensures.value, read) at c.with_bit.ensures in
    let used = rw read at c.write_bit.ensures in
    rw (bit.cells, read) (valid_after c.self.invariant s.page.lt _ (length-set _ _ _) (apart s.page _ _ short) _
    (valid_set _ _ _ _ _ _ _ _ _ _ s.page.valid (omega arith) (omega arith) (here s.page _ _ short) (others s.page _ _ short) bit.within free.within used.within
    _ s.was bit.written (rw (c.min.ensures, read) at c.ones-full.ensures) free.written used.written))

pub returns-clause-taken : goal.returns-clause-taken
returns-clause-taken c =
    let s = at_slot c.self.invariant (rw (← c.self.view_is) at (returns-clause-free c)) in
    let read = s.page.read c.index_mut-summary.ensures.value in
    let at = rw (c.lend-free.ensures.value, read) at c.lowest_set-at.ensures in
    let short = free_word _ _ _ s.page.valid _ at.at in
    let bit = c.set_least_clear-bit.ensures in
    rw (bit.cells, ← c.self.view_is, read, s.page.seen) (pages_after c.self.invariant s.page.lt _ (length-set _ _ _) (apart s.page _ _ short) _ _
    (written _ _ _ _ _ _ _ _ s.inside (omega arith) (omega arith) (here s.page _ _ short) (others s.page _ _ short) bit.written))
