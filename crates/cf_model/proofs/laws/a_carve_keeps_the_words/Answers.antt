use Rattle.cf_model.proofs.ReadObjects.{carve_words}
use Rattle.cf_model.proofs.laws.a_carve_keeps_the_words.Goals as goal

pub returns : goal.returns
returns c = carve_words
