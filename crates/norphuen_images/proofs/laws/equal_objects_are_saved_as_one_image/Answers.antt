use Rattle.norphuen_images.proofs.ThereAndBack.{one_image}
use Rattle.norphuen_images.proofs.laws.equal_objects_are_saved_as_one_image.Goals as goal

pub returns : goal.returns
returns c = one_image c.equal_objects_have_one_image.ensures
