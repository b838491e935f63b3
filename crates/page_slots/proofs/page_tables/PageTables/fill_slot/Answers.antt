-- The first partly full page has a used slot.
use Rattle.std.proofs.Common.{sym}
use Rattle.page_slots.proofs.Calls.{front_slot, front_small, front_taken, front_used_slot}
use Rattle.page_slots.proofs.TablesAfterFree.{loses, loses_others}
use Rattle.page_slots.proofs.page_tables.PageTables.fill_slot.Goals as goal

pub filling_slot-page-requires-clause-used : goal.filling_slot-page-requires-clause-used
filling_slot-page-requires-clause-used c = λ page front. front_used_slot _ _ c.requires.tables c.args.c page front

pub vacate-requires-clause-taken : goal.vacate-requires-clause-taken
vacate-requires-clause-taken c = front_taken _ _ c.requires.tables c.args.c c.filling_slot-page.result.0 (sym c.filling_slot-page.ensures.front)

pub address_of-address-requires-clause-slot : goal.address_of-address-requires-clause-slot
address_of-address-requires-clause-slot c =
    front_slot _ _ c.requires.tables c.args.c c.filling_slot-page.result.0 (sym c.filling_slot-page.ensures.front) c.filling_slot-page.result.1 _
    c.filling_slot-page.ensures.used

pub address_of-address-requires-clause-small : goal.address_of-address-requires-clause-small
address_of-address-requires-clause-small c = front_small _ _ c.requires.tables c.args.c c.filling_slot-page.result.0 (sym c.filling_slot-page.ensures.front)

pub returns-clause-filled : goal.returns-clause-filled
returns-clause-filled c = record {
  page = c.filling_slot-page.result.0;
  slot = c.filling_slot-page.result.1;
  address = c.address_of-address.ensures;
  front = c.filling_slot-page.ensures.front;
  least = c.filling_slot-page.ensures.least;
  vacates = c.vacate.ensures.freed;
}

pub returns-clause-others : goal.returns-clause-others
returns-clause-others c =
    loses_others _ _ _ _ _ _
    (loses _ _ c.requires.tables c.args.c c.filling_slot-page.result.0 c.filling_slot-page.result.1 _ c.vacate.ensures.freed c.vacate.ensures.lists
    c.vacate.ensures.pool)

pub returns-clause-kept : goal.returns-clause-kept
returns-clause-kept c =
    (loses _ _ c.requires.tables c.args.c c.filling_slot-page.result.0 c.filling_slot-page.result.1 _ c.vacate.ensures.freed c.vacate.ensures.lists
    c.vacate.ensures.pool).kept
