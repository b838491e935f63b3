use Rattle.slice_model.proofs.JobSlices.{runs_go_on}
use Rattle.slice_model.proofs.jobs.a_job_advances_by_its_slices.Goals as goal

pub returns : goal.returns
returns c = runs_go_on
