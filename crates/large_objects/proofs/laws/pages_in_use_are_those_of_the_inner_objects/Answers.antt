use Rattle.large_objects.proofs.ObjectLaws.{pages_used}
use Rattle.large_objects.proofs.laws.pages_in_use_are_those_of_the_inner_objects.Goals as goal

pub returns : goal.returns
returns c = pages_used
