use Rattle.slice_model.proofs.JobSlices.{runs_end}
use Rattle.slice_model.proofs.jobs.a_job_ends_after_its_words_over_the_quantum.Goals as goal

pub returns : goal.returns
returns c = λ plan turns old mid new k ok. runs_end plan ok turns old mid new k
