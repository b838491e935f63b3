use Rattle.quota_session.proofs.Isolated.{isolated_alike, isolated_in}
use Rattle.quota_session.proofs.laws.tasks_are_isolated_in_a_script.Goals as goal

pub returns-clause-own : goal.returns-clause-own
returns-clause-own c = λ items task replies shown lt. isolated_in task lt items replies shown

pub returns-clause-alike : goal.returns-clause-alike
returns-clause-alike c = λ items others task replies shown lt. isolated_alike task lt items others replies shown
