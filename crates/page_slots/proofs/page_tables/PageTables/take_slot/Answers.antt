-- The first partly full page has a free slot.
use Rattle.std.proofs.Common.{ap, arith, inl, refl, sym}
use Rattle.slot_bitmap.specs.Maps.{SlotTable}
use Rattle.class_lists.specs.PageLists.{pages_in}
use Rattle.class_lists.specs.declared.Which.TheVariants.{NotFull}
use Rattle.std.proofs.lemmas.List.{nil_from_length}
use Rattle.page_slots.proofs.Calls.{front_there, front_inside, read_back, front_small, front_room, front_slot, took_open_steps}
use Rattle.page_slots.proofs.TablesAfterTake.{taken_gains, taken_others}
use Rattle.page_slots.proofs.page_tables.PageTables.take_slot.Goals as goal

pub take_least-slot-requires-clause-page : goal.take_least-slot-requires-clause-page
take_least-slot-requires-clause-page c = front_inside _ _ c.requires.tables c.args.c c.in-Some.page c.in-Some.ensures.front

pub take_least-slot-requires-clause-some : goal.take_least-slot-requires-clause-some
take_least-slot-requires-clause-some c = front_room _ _ c.requires.tables c.args.c c.in-Some.page c.in-Some.ensures.front

pub list_as_full_if_filled-requires-clause-listed : goal.list_as_full_if_filled-requires-clause-listed
list_as_full_if_filled-requires-clause-listed c = front_there _ _ c.requires.tables c.args.c c.in-Some.page c.in-Some.ensures.front

pub address_of-requires-clause-slot : goal.address_of-requires-clause-slot
address_of-requires-clause-slot c =
    front_slot _ _ c.requires.tables c.args.c c.in-Some.page c.in-Some.ensures.front c.take_least-slot.result _ c.take_least-slot.ensures.free

pub address_of-requires-clause-small : goal.address_of-requires-clause-small
address_of-requires-clause-small c = front_small _ _ c.requires.tables c.args.c c.in-Some.page c.in-Some.ensures.front

pub take_on_free_page-requires-clause-none : goal.take_on_free_page-requires-clause-none
take_on_free_page-requires-clause-none c = nil_from_length (pages_in c.args.lists.now c.args.c NotFull) (omega (arith, c.len.ensures.len, c.if-len-eq0.true))

pub returns-clause-taken : goal.returns-clause-taken
returns-clause-taken c = record {
  page = c.in-Some.page;
  slot = c.take_least-slot.result;
  address = c.address_of.ensures;
  taken = inl (record {
    front = sym c.in-Some.ensures.front;
    least = c.take_least-slot.ensures.least;
    free = c.take_least-slot.ensures.free;
    maps = ap (λ (m : SlotTable). m.pages) c.take_least-slot.ensures.map;
    pool = refl;
    filled = c.list_as_full_if_filled.ensures.filled;
    not_filled = c.list_as_full_if_filled.ensures.not_filled;
  });
}

pub returns-clause-others : goal.returns-clause-others
returns-clause-others c =
    taken_others _ _ c.requires.tables c.args.c c.requires.class _ _ (returns-clause-taken c) c.list_as_full_if_filled.ensures.kept c.requires.tables.pool

pub returns-clause-kept : goal.returns-clause-kept
returns-clause-kept c =
    (taken_gains _ _ c.requires.tables c.args.c c.requires.class _ _ (returns-clause-taken c) c.list_as_full_if_filled.ensures.kept
    c.requires.tables.pool).kept

pub returns-clause-steps : goal.returns-clause-steps
returns-clause-steps c =
    let inside = front_inside _ _ c.requires.tables c.args.c c.in-Some.page c.in-Some.ensures.front in
    took_open_steps _ _ c.requires.tables c.args.c c.in-Some.page c.in-Some.ensures.front c.take_least-slot.result _ c.take_least-slot.ensures.free
    (read_back _ _ _ _ c.take_least-slot.ensures.map inside) c.args.steps.now _ _ _
    c.in-Some.ensures.steps c.take_least-slot.ensures.steps c.list_as_full_if_filled.ensures.steps
