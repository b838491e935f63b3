-- A page is empty if its only used slot becomes free.
use Rattle.page_slots.proofs.Calls.{emptied_steps, kept_steps, used_left}
use Rattle.page_slots.proofs.page_tables.PageTables.vacate.Goals as goal

pub returns-then-count-eq0-clause-steps : goal.returns-then-count-eq0-clause-steps
returns-then-count-eq0-clause-steps c =
    let few = used_left _ _ _ _ c.args.slot c.unset.ensures.value c.requires.page c.requires.used c.count.ensures.value in
    emptied_steps c.args.self.now.maps.pages c.args.page c.count.result few c.args.which _ _ _ _ c.unset.ensures.steps c.count.ensures.steps _ c.if-count-eq0.true
    c.unlink.ensures.steps c.give.ensures.steps

pub returns-else-count-eq0-clause-steps : goal.returns-else-count-eq0-clause-steps
returns-else-count-eq0-clause-steps c =
    let few = used_left _ _ _ _ c.args.slot c.unset.ensures.value c.requires.page c.requires.used c.count.ensures.value in
    kept_steps c.args.self.now.maps.pages c.args.page c.count.result few c.args.which _ _ _ _ c.unset.ensures.steps c.count.ensures.steps c.if-count-eq0.false
    c.list_as_partly_full.ensures.steps
