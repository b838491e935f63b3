use Rattle.std.proofs.Common.{◌+◌, ◌-◌}
use Rattle.page_model.specs.Counts.{ceil_div}
use Rattle.page_model.specs.Paging.{slot_words}
use Rattle.slice_model.proofs.JobSlices.{slices_end_all}
use Rattle.slice_model.proofs.Waiting.{done_then, slices_keep}
use Rattle.slice_model.proofs.jobs.a_busy_malloc_succeeds_after_the_slices.Goals as goal

pub returns : goal.returns
returns c = λ plan old new bytes k ok kept wants job slices. (
    let idle = slices_end_all plan ok old new k kept job slices in
    let keep = slices_keep plan ok (ceil_div (slot_words plan.paging k.class - k.done) plan.quantum
    + ceil_div (slot_words plan.paging k.class) plan.quantum) old new kept slices in
    done_then plan ok old new bytes keep.0 keep.1 idle wants)
