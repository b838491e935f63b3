use Rattle.std.proofs.Common.{sym, ap, ◌∙◌}
use Rattle.std.proofs.lemmas.List.{get_or_read}
use Rattle.slot_bitmap.specs.declared.page_summary.PageSummary.{PageSummary}
use Rattle.slot_bitmap.proofs.Slots.{no_used, used_word, some_bit, used_at, found_used}
use Rattle.slot_bitmap.proofs.Pages.{page_in}
use Rattle.slot_bitmap.proofs.slot_maps.SlotMaps.first_used.Goals as goal

pub returns-then-summary-eq0-clause-found : goal.returns-then-summary-eq0-clause-found
returns-then-summary-eq0-clause-found c =
    let a = page_in c.self.invariant (rw (← c.self.view_is) at c.requires) in
    let read = ap (λ (s : PageSummary). s.with_used) (a.read c.index.ensures) in
    rw (← c.self.view_is, a.seen) (sym (no_used _ _ _ a.valid (sym read ∙ sym c.get-summary.ensures.value ∙ c.if-summary-eq0.true)))

pub get-word-requires : goal.get-word-requires
get-word-requires c =
    let a = page_in c.self.invariant (rw (← c.self.view_is) at c.requires) in
    let read = ap (λ (s : PageSummary). s.with_used) (a.read c.index.ensures) in
    let at = rw (c.get-summary.ensures.value, read) at c.lowest_set-at.ensures in
    a.cell _ (used_word _ _ _ a.valid _ at.at)

pub lowest_set-requires : goal.lowest_set-requires
lowest_set-requires c =
    let a = page_in c.self.invariant (rw (← c.self.view_is) at c.requires) in
    let read = ap (λ (s : PageSummary). s.with_used) (a.read c.index.ensures) in
    let at = rw (c.get-summary.ensures.value, read) at c.lowest_set-at.ensures in
    let word = get_or_read c.self.inside.words _ _ (a.cell _ (used_word _ _ _ a.valid _ at.at)) c.get-word.ensures.value 0 in
    rw word (some_bit _ _ _ a.valid _ at.at)

pub returns-clause-found : goal.returns-clause-found
returns-clause-found c =
    let a = page_in c.self.invariant (rw (← c.self.view_is) at c.requires) in
    let read = ap (λ (s : PageSummary). s.with_used) (a.read c.index.ensures) in
    let at = rw (c.get-summary.ensures.value, read) at c.lowest_set-at.ensures in
    let word = get_or_read c.self.inside.words _ _ (a.cell _ (used_word _ _ _ a.valid _ at.at)) c.get-word.ensures.value 0 in
    let bit = rw word at c.lowest_set.ensures in
    rw (← c.self.view_is, a.seen) (used_at _ _ _ a.valid _ at.at _ bit.within at.below bit.at bit.below)

pub returns-clause-used : goal.returns-clause-used
returns-clause-used c =
    let is = returns-clause-found c in
    rw (← c.self.view_is) (found_used _ _ (rw (← c.self.view_is) at is))
