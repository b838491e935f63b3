use Rattle.heap_image.proofs.ImageDecoded.{image_read}
use Rattle.heap_image.proofs.laws.an_image_is_read_back.Goals as goal

pub returns : goal.returns
returns c = image_read
