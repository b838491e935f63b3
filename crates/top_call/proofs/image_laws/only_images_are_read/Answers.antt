use Rattle.top_call.proofs.OnlyImages.{image_of_objects, shown_exactly}
use Rattle.top_call.proofs.image_laws.only_images_are_read.Goals as goal

pub returns-clause-images : goal.returns-clause-images
returns-clause-images c = image_of_objects

pub returns-clause-exactly : goal.returns-clause-exactly
returns-clause-exactly c = shown_exactly c.an_image_is_read_back.ensures
