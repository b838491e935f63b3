use Rattle.slice_model.proofs.JobSlices.{slices_end_all}
use Rattle.slice_model.proofs.jobs.slices_alone_end_every_job.Goals as goal

pub returns : goal.returns
returns c = λ plan old new k ok. slices_end_all plan ok old new k
