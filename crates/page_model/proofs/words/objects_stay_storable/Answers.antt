use Rattle.page_model.proofs.Writing.{storable_added, storable_without, zeros_are_bytes, resized_are_bytes, written_are_bytes}
use Rattle.page_model.proofs.words.objects_stay_storable.Goals as goal

pub returns-clause-comes : goal.returns-clause-comes
returns-clause-comes c = storable_added

pub returns-clause-goes : goal.returns-clause-goes
returns-clause-goes c = storable_without

pub returns-clause-zeros : goal.returns-clause-zeros
returns-clause-zeros c = zeros_are_bytes

pub returns-clause-resized : goal.returns-clause-resized
returns-clause-resized c = resized_are_bytes

pub returns-clause-written : goal.returns-clause-written
returns-clause-written c = written_are_bytes
