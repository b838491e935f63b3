use Rattle.top_call.proofs.Printed.{image_long}
use Rattle.top_call.proofs.image_laws.the_size_of_an_image_is_known_beforehand.Goals as goal

pub returns : goal.returns
returns c = λ p o ids. image_long o ids p
