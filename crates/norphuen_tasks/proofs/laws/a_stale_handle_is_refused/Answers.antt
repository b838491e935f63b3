use Rattle.norphuen_tasks.proofs.TaskLaws.{free_is_refused, length_is_refused, read_is_refused, write_is_refused}
use Rattle.norphuen_tasks.proofs.laws.a_stale_handle_is_refused.Goals as goal

pub returns-clause-free : goal.returns-clause-free
returns-clause-free c = free_is_refused

pub returns-clause-write : goal.returns-clause-write
returns-clause-write c = write_is_refused

pub returns-clause-read : goal.returns-clause-read
returns-clause-read c = read_is_refused

pub returns-clause-length : goal.returns-clause-length
returns-clause-length c = length_is_refused
