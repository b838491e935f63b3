use Rattle.top_call.proofs.OwnOutcomes.{own_going, part_going}
use Rattle.top_call.proofs.laws.each_manager_is_open_after_its_run.Goals as goal

pub returns-clause-whole : goal.returns-clause-whole
returns-clause-whole c = own_going

pub returns-clause-in_part : goal.returns-clause-in_part
returns-clause-in_part c = part_going
