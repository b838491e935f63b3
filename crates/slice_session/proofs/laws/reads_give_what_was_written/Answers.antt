use Rattle.script_laws.proofs.CallerLemmas.{names_objects, any_reads_are_shown}
use Rattle.slice_session.specs.Playing.{BeginsSlices}
use Rattle.slice_session.specs.SliceRun.{SliceStep, sliced_calls}
use Rattle.slice_session.proofs.RunInvariant.{begins_going, play_seen, sliced_keeps}
use Rattle.slice_session.proofs.laws.reads_give_what_was_written.Goals as goal

pub returns-clause-run : goal.returns-clause-run
returns-clause-run c = λ quantum. any_reads_are_shown (BeginsSlices quantum) SliceStep
    (names_objects sliced_calls sliced_keeps (BeginsSlices quantum) (λ p reply s b. begins_going quantum p s b.0) (λ p reply s b. b.0.ids))

pub returns-clause-play : goal.returns-clause-play
returns-clause-play c = λ from items replies new run.
    returns-clause-run c from.quantum items replies _ (play_seen from items replies new run)
