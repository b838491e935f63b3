use Rattle.std.proofs.Common.{ap, ◌∙◌, sym}
use Rattle.slot_bitmap.specs.declared.page_summary.PageSummary.{PageSummary}
use Rattle.slot_bitmap.proofs.Pages.{page_in}
use Rattle.slot_bitmap.proofs.slot_maps.SlotMaps.len.Goals as goal

pub returns : goal.returns
returns c =
    let a = page_in c.self.invariant (rw (← c.self.view_is) at c.requires) in
    let read = a.read c.index.ensures in
    rw (← c.self.view_is) (ap (λ (s : PageSummary). s.slots) read ∙ sym a.len)
