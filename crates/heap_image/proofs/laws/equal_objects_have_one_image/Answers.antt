use Rattle.heap_image.proofs.LivesLemmas.{same_image}
use Rattle.heap_image.proofs.laws.equal_objects_have_one_image.Goals as goal

pub returns : goal.returns
returns c = same_image
