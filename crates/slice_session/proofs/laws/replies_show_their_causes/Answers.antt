use Rattle.slice_session.proofs.Causes.{cause_shown, free_cause, busy_free_cause, malloc_cause, busy_malloc_cause}
use Rattle.slice_session.proofs.laws.replies_show_their_causes.Goals as goal

pub returns : goal.returns
returns c = record {
  malloc = λ old new id n e none step. malloc_cause old new id n e none step;
  refused = λ old new id n e reply going none cause step. cause_shown old new id n e reply going none cause step;
  free = λ old new id h e live step. free_cause old new id h e live step;
  busy_malloc = λ old new id n going step. busy_malloc_cause old new id c.a_malloc_is_busy_only_with_a_job.ensures n going step;
  busy_free = λ old new id step. busy_free_cause old new id step;
}
