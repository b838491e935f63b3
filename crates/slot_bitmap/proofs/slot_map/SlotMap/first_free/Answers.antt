use Rattle.std.proofs.Common.{sym, ◌∙◌, arith}
use Rattle.std.proofs.lemmas.List.{get_or_read}
use Rattle.slot_bitmap.proofs.Slots.{no_free, has_room, free_at, found_free}
use Rattle.slot_bitmap.proofs.slot_map.SlotMap.first_free.Goals as goal

pub returns-then-summary-eq0-clause-found : goal.returns-then-summary-eq0-clause-found
returns-then-summary-eq0-clause-found c =
    rw (← c.self.view_is) (sym (no_free _ _ _ c.self.invariant.page (sym c.get-summary.ensures.value ∙ c.if-summary-eq0.true)))

pub lowest_clear-requires : goal.lowest_clear-requires
lowest_clear-requires c =
    let at = rw c.get-summary.ensures.value at c.lowest_set-at.ensures in
    let read = get_or_read c.self.inside.words _ _ (omega (arith, c.self.invariant.count, at.within)) c.get-word.ensures.value 0 in
    rw read (has_room _ _ _ c.self.invariant.page _ at.at)

pub returns-clause-found : goal.returns-clause-found
returns-clause-found c = rw (← c.self.view_is) (
    let at = rw c.get-summary.ensures.value at c.lowest_set-at.ensures in
    let read = get_or_read c.self.inside.words _ _ (omega (arith, c.self.invariant.count, at.within)) c.get-word.ensures.value 0 in
    let bit = rw read at c.lowest_clear.ensures in
    free_at _ _ _ c.self.invariant.page _ at.at _ bit.within at.below bit.at bit.below)

pub returns-clause-free : goal.returns-clause-free
returns-clause-free c =
    let is = returns-clause-found c in
    rw (← c.self.view_is) (found_free _ _ (rw (← c.self.view_is) at is))
