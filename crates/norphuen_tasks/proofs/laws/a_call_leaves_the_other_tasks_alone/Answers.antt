use Rattle.norphuen_tasks.proofs.TaskLaws.{free_alone, malloc_alone, quota_alone, write_alone}
use Rattle.norphuen_tasks.proofs.laws.a_call_leaves_the_other_tasks_alone.Goals as goal

pub returns-clause-quota : goal.returns-clause-quota
returns-clause-quota c = quota_alone

pub returns-clause-malloc : goal.returns-clause-malloc
returns-clause-malloc c = malloc_alone

pub returns-clause-free : goal.returns-clause-free
returns-clause-free c = free_alone

pub returns-clause-write : goal.returns-clause-write
returns-clause-write c = write_alone
