use Rattle.script_laws.proofs.CallerLemmas.{runs_on, runs_exist}
use Rattle.large_session.specs.LargeRun.{LargeStep}
use Rattle.large_session.specs.Playing.{BeginsAtOne}
use Rattle.large_session.proofs.RunInvariant.{large_goes_on}
use Rattle.large_session.proofs.laws.a_run_on_long_objects_can_go_on.Goals as goal

pub returns-clause-there : goal.returns-clause-there
returns-clause-there c = λ kind given ended paged. runs_exist (BeginsAtOne kind) LargeStep (large_goes_on kind paged) given ended

pub returns-clause-on : goal.returns-clause-on
returns-clause-on c = λ kind given ended done after replies mid paged. runs_on (BeginsAtOne kind) LargeStep (large_goes_on kind paged) given ended done after
    replies mid
