use Rattle.std.proofs.Common.{sym, ◌∙◌, arith}
use Rattle.std.proofs.lemmas.List.{get_or_read}
use Rattle.slot_bitmap.proofs.Slots.{no_used, some_bit, used_at, found_used}
use Rattle.slot_bitmap.proofs.slot_map.SlotMap.first_used.Goals as goal

pub returns-then-summary-eq0-clause-found : goal.returns-then-summary-eq0-clause-found
returns-then-summary-eq0-clause-found c =
    rw (← c.self.view_is) (sym (no_used _ _ _ c.self.invariant.page (sym c.get-summary.ensures.value ∙ c.if-summary-eq0.true)))

pub lowest_set-requires : goal.lowest_set-requires
lowest_set-requires c =
    let at = rw c.get-summary.ensures.value at c.lowest_set-at.ensures in
    let read = get_or_read c.self.inside.words _ _ (omega (arith, c.self.invariant.count, at.within)) c.get-word.ensures.value 0 in
    rw read (some_bit _ _ _ c.self.invariant.page _ at.at)

pub returns-clause-found : goal.returns-clause-found
returns-clause-found c = rw (← c.self.view_is) (
    let at = rw c.get-summary.ensures.value at c.lowest_set-at.ensures in
    let read = get_or_read c.self.inside.words _ _ (omega (arith, c.self.invariant.count, at.within)) c.get-word.ensures.value 0 in
    let bit = rw read at c.lowest_set.ensures in
    used_at _ _ _ c.self.invariant.page _ at.at _ bit.within at.below bit.at bit.below)

pub returns-clause-used : goal.returns-clause-used
returns-clause-used c =
    let is = returns-clause-found c in
    rw (← c.self.view_is) (found_used _ _ (rw (← c.self.view_is) at is))
