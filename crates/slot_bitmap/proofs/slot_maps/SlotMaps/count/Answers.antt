use Rattle.std.proofs.Common.{ap, ◌∙◌}
use Rattle.slot_bitmap.specs.declared.page_summary.PageSummary.{PageSummary}
use Rattle.slot_bitmap.proofs.Pages.{page_in}
use Rattle.slot_bitmap.proofs.slot_maps.SlotMaps.count.Goals as goal

pub returns-clause-value : goal.returns-clause-value
returns-clause-value c =
    let a = page_in c.self.invariant (rw (← c.self.view_is) at c.requires) in
    let read = a.read c.index.ensures in
    rw (← c.self.view_is, a.seen) (ap (λ (s : PageSummary). s.used) read ∙ a.valid.counted)
