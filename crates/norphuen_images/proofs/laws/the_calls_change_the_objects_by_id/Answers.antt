use Rattle.norphuen_images.proofs.ObjectsByIds.{free_by_id, make_by_id, read_by_id, write_by_id}
use Rattle.norphuen_images.proofs.laws.the_calls_change_the_objects_by_id.Goals as goal

pub returns-clause-make : goal.returns-clause-make
returns-clause-make c = make_by_id

pub returns-clause-free : goal.returns-clause-free
returns-clause-free c = free_by_id

pub returns-clause-write : goal.returns-clause-write
returns-clause-write c = write_by_id

pub returns-clause-read : goal.returns-clause-read
returns-clause-read c = read_by_id
