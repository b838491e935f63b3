use Rattle.quota_session.proofs.OwnTask.{as_alone}
use Rattle.quota_session.proofs.laws.a_task_has_a_heap_of_its_own.Goals as goal

pub returns : goal.returns
returns c = λ one task items left served. as_alone task items one left served
