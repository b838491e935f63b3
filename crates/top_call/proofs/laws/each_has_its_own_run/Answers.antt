use Rattle.top_call.proofs.OwnOutcomes.{own_runs}
use Rattle.top_call.proofs.laws.each_has_its_own_run.Goals as goal

pub returns : goal.returns
returns c = λ kinds items replies end run. own_runs kinds items replies end run
