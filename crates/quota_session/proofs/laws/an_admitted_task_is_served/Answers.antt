use Rattle.quota_session.proofs.Admitted.{admitted_served}
use Rattle.quota_session.proofs.laws.an_admitted_task_is_served.Goals as goal

pub returns : goal.returns
returns c = admitted_served
