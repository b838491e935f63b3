use Rattle.slice_model.proofs.PendingTime.{freed_idle}
use Rattle.slice_model.proofs.jobs.each_malloc_between_prolongs_a_job_once.Goals as goal

pub returns : goal.returns
returns c = λ plan old freed new h x turns ok good there is runs none enough. freed_idle plan ok old freed new h x turns good there is runs none enough
