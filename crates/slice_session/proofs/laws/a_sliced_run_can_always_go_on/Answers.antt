use Rattle.script_laws.proofs.CallerLemmas.{runs_on, runs_exist}
use Rattle.slice_session.specs.Playing.{BeginsSlices}
use Rattle.slice_session.specs.SliceRun.{SliceStep}
use Rattle.slice_session.proofs.CommandSteps.{slices_go_on}
use Rattle.slice_session.proofs.laws.a_sliced_run_can_always_go_on.Goals as goal

pub returns-clause-there : goal.returns-clause-there
returns-clause-there c = λ quantum given ended q. runs_exist (BeginsSlices quantum) SliceStep
    (slices_go_on c.an_empty_heap_is_consistent.ensures quantum q) given ended

pub returns-clause-on : goal.returns-clause-on
returns-clause-on c = λ quantum given ended done after replies mid q. runs_on (BeginsSlices quantum) SliceStep
    (slices_go_on c.an_empty_heap_is_consistent.ensures quantum q) given ended done after replies mid
