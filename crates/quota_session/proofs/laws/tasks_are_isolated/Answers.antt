use Rattle.quota_session.proofs.Isolated.{calls_isolated}
use Rattle.quota_session.proofs.laws.tasks_are_isolated.Goals as goal

pub returns : goal.returns
returns c = λ s task items lt. calls_isolated task lt s items
