-- A page with a used slot is in the list that its slots determine.
use Rattle.std.proofs.Common.{subst, sym}
use Rattle.page_slots.specs.PageTables.{tables_with}
use Rattle.page_slots.specs.Tables.{IsOf}
use Rattle.page_slots.proofs.Calls.{dropped_steps, of_class, of_lists_class, of_listed, of_page, of_taken, page_inside}
use Rattle.page_slots.proofs.TablesAfterFree.{loses, loses_others}
use Rattle.page_slots.proofs.page_tables.PageTables.drop_slot.Goals as goal

pub slot_of-slot-requires : goal.slot_of-slot-requires
slot_of-slot-requires c = of_class _ _ c.requires.tables _ _ c.requires.used.of

pub list_of-which-requires : goal.list_of-which-requires
list_of-which-requires c = rw c.page_of-page.ensures (page_inside _ _ c.requires.tables _ (of_page _ _ c.requires.tables _ _ c.requires.used.of))

pub vacate-requires-clause-class : goal.vacate-requires-clause-class
vacate-requires-clause-class c = of_lists_class _ _ c.requires.tables _ _ c.requires.used.of

pub vacate-requires-clause-taken : goal.vacate-requires-clause-taken
vacate-requires-clause-taken c = rw c.page_of-page.ensures (of_taken _ _ c.requires.tables _ _ c.requires.used.of)

pub vacate-requires-clause-listed : goal.vacate-requires-clause-listed
vacate-requires-clause-listed c =
    let there = subst (λ g. IsOf (tables_with c.args.self.now c.args.lists.now) c.args.c g) (sym c.page_of-page.ensures) c.requires.used.of in
    of_listed _ _ c.requires.tables c.args.c c.page_of-page.result there c.list_of-which.result c.list_of-which.ensures.full c.list_of-which.ensures.not_full

pub returns-clause-others : goal.returns-clause-others
returns-clause-others c =
    loses_others _ _ _ _ _ _
    (loses _ _ c.requires.tables c.args.c c.page_of-page.result c.slot_of-slot.result _ c.vacate.ensures.freed c.vacate.ensures.lists c.vacate.ensures.pool)

pub returns-clause-kept : goal.returns-clause-kept
returns-clause-kept c = (loses _ _ c.requires.tables c.args.c c.page_of-page.result c.slot_of-slot.result _ c.vacate.ensures.freed
    c.vacate.ensures.lists c.vacate.ensures.pool).kept

pub returns-clause-steps : goal.returns-clause-steps
returns-clause-steps c =
    rw (← c.page_of-page.ensures) (dropped_steps _ c.list_of-which.result _ _ _
    c.list_of-which.ensures.full c.list_of-which.ensures.not_full c.list_of-which.ensures.steps c.vacate.ensures.steps)
