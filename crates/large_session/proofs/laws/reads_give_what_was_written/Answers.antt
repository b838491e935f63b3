use Rattle.script_laws.proofs.CallerLemmas.{names_objects, any_reads_are_shown}
use Rattle.large_session.specs.LargeRun.{LargeStep, large_calls}
use Rattle.large_session.specs.Playing.{BeginsAtOne}
use Rattle.large_session.proofs.RunInvariant.{large_keeps, begins_going}
use Rattle.large_session.proofs.laws.reads_give_what_was_written.Goals as goal

pub returns : goal.returns
returns c = λ kind. any_reads_are_shown (BeginsAtOne kind) LargeStep
    (names_objects large_calls large_keeps (BeginsAtOne kind) (λ p reply s b. begins_going kind p s b.0) (λ p reply s b. b.0.ids))
