use Rattle.large_objects.proofs.Cutting.{parts_enough, parts_few}
use Rattle.large_objects.proofs.laws.parts_are_as_many_as_needed.Goals as goal

pub returns-clause-enough : goal.returns-clause-enough
returns-clause-enough c = parts_enough

pub returns-clause-few : goal.returns-clause-few
returns-clause-few c = parts_few
