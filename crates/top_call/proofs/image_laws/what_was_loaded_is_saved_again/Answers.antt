use Rattle.top_call.proofs.SavedImage.{loaded_and_saved}
use Rattle.top_call.proofs.image_laws.what_was_loaded_is_saved_again.Goals as goal

pub returns : goal.returns
returns c = loaded_and_saved (λ bytes p o b. c.only_images_are_read.ensures.exactly bytes p o b)
