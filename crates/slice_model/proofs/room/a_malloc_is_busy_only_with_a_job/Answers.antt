use Rattle.std.proofs.Common.{arith}
use Rattle.slice_model.proofs.RoomBeside.{idle_is_over}
use Rattle.slice_model.proofs.room.a_malloc_is_busy_only_with_a_job.Goals as goal

pub returns : goal.returns
returns c = λ plan s bytes ok kept wants idle. (
    let over = idle_is_over plan ok s kept bytes wants.fits idle wants.lacking in
    let within = wants.within in
    omega arith)
