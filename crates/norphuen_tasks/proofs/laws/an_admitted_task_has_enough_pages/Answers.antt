use Rattle.norphuen_tasks.proofs.TaskLaws.{admitted}
use Rattle.norphuen_tasks.proofs.laws.an_admitted_task_has_enough_pages.Goals as goal

pub returns : goal.returns
returns c = admitted
