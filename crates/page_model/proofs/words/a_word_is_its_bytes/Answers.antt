use Rattle.page_model.proofs.Writing.{word_by_bytes, object_word_small}
use Rattle.page_model.proofs.words.a_word_is_its_bytes.Goals as goal

pub returns-clause-same : goal.returns-clause-same
returns-clause-same c = word_by_bytes

pub returns-clause-fits : goal.returns-clause-fits
returns-clause-fits c = object_word_small
