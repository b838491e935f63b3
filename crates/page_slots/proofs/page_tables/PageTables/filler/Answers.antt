-- The first partly full page has a used slot.
use Rattle.std.proofs.Common.{sym}
use Rattle.page_slots.proofs.Calls.{front_slot, front_small, front_used_slot}
use Rattle.page_slots.proofs.page_tables.PageTables.filler.Goals as goal

pub filling_slot-page-requires-clause-used : goal.filling_slot-page-requires-clause-used
filling_slot-page-requires-clause-used c = λ page front. front_used_slot _ _ c.requires.tables c.args.c page front

pub address_of-requires-clause-slot : goal.address_of-requires-clause-slot
address_of-requires-clause-slot c =
    front_slot _ _ c.requires.tables c.args.c c.filling_slot-page.result.0 (sym c.filling_slot-page.ensures.front) c.filling_slot-page.result.1 _
    c.filling_slot-page.ensures.used

pub address_of-requires-clause-small : goal.address_of-requires-clause-small
address_of-requires-clause-small c = front_small _ _ c.requires.tables c.args.c c.filling_slot-page.result.0 (sym c.filling_slot-page.ensures.front)

pub returns-clause-filler : goal.returns-clause-filler
returns-clause-filler c = record {
  page = c.filling_slot-page.result.0;
  slot = c.filling_slot-page.result.1;
  address = c.address_of.ensures;
  front = c.filling_slot-page.ensures.front;
  least = c.filling_slot-page.ensures.least;
  used = c.filling_slot-page.ensures.used;
}
