use Rattle.std.proofs.lemmas.List.{get_or_read}
use Rattle.slot_bitmap.proofs.Slots.{has_word, slot_shown}
use Rattle.slot_bitmap.proofs.Pages.{page_of}
use Rattle.slot_bitmap.proofs.slot_maps.SlotMaps.is_used.Goals as goal

pub get-requires : goal.get-requires
get-requires c =
    let a = page_of c.self.invariant (rw (← c.self.view_is) at c.requires) in
    let lt = rw (← c.self.view_is, a.len) at c.requires in
    a.cell _ (has_word _ _ _ a.valid _ lt)

pub returns-clause-value : goal.returns-clause-value
returns-clause-value c =
    let a = page_of c.self.invariant (rw (← c.self.view_is) at c.requires) in
    let lt = rw (← c.self.view_is, a.len) at c.requires in
    let read = get_or_read c.self.inside.words _ _ (a.cell _ (has_word _ _ _ a.valid _ lt)) c.get.ensures.value 0 in
    rw (← c.self.view_is, a.seen) (slot_shown _ _ c.args.i c.has_bit.result lt (rw read at c.has_bit.ensures))
