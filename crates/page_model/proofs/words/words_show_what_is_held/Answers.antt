use Rattle.page_model.proofs.Reading.{held_from_image}
use Rattle.page_model.proofs.words.words_show_what_is_held.Goals as goal

pub returns : goal.returns
returns c = held_from_image
