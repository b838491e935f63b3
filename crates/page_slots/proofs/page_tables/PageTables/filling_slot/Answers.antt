-- The head page has a used slot.
use Rattle.page_slots.proofs.Calls.{finds_used}
use Rattle.slot_bitmap.specs.Maps.{on_page}
use Rattle.page_slots.proofs.page_tables.PageTables.filling_slot.Goals as goal

pub first_used-requires : goal.first_used-requires
first_used-requires c = (let has = c.requires.used c.in-Some.page c.in-Some.ensures.front in has.within)

pub unreachable-requires-in_default-first_used : goal.unreachable-requires-in_default-first_used
unreachable-requires-in_default-first_used c =
    let has = c.requires.used c.in-Some.page c.in-Some.ensures.front in
    finds_used (on_page c.args.self.now.maps c.in-Some.page) has.some c.in_default-first_used.ensures.found
