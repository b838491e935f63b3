use Rattle.run_model.specs.Runs.{BeginsOne, IsCommandStep}
use Rattle.script_laws.proofs.GoingOn.{kind_goes_on}
use Rattle.script_laws.proofs.RunsExist.{runs_on, runs_exist}
use Rattle.script_laws.proofs.runs.a_run_can_always_go_on.Goals as goal

pub returns-clause-there : goal.returns-clause-there
returns-clause-there c = λ kind. runs_exist (BeginsOne kind) IsCommandStep (kind_goes_on kind)

pub returns-clause-on : goal.returns-clause-on
returns-clause-on c = λ kind. runs_on (BeginsOne kind) IsCommandStep (kind_goes_on kind)
