use Rattle.std.proofs.Common.{arith}
use Rattle.page_model.specs.Paging.{class_for}
use Rattle.page_model.proofs.CallerLemmas.{class_fits, lacks_room_at_one}
use Rattle.slice_model.specs.State.{job_slot, occupied}
use Rattle.slice_model.proofs.Occupied.{no_place_is_lacking, no_placeholder}
use Rattle.slice_model.proofs.SparePage.{needed_with_slot}
use Rattle.slice_model.proofs.room.no_malloc_is_busy_with_a_spare_page.Goals as goal

pub returns : goal.returns
returns c = λ plan s bytes ok kept spare wants. (
    let lt = class_fits plan.paging ok.paging bytes wants.fits in
    let both = lacks_room_at_one plan.paging ok.paging ok.ones (occupied plan s) kept.sound bytes lt in
    let over = both.0 (no_place_is_lacking plan ok s kept (class_for plan.paging bytes) lt wants.lacking) in
    let one_more = needed_with_slot plan ok s.held (no_placeholder plan s.held kept.numbers) (job_slot s.job) bytes in
    omega arith)
