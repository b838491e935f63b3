use Rattle.cf_model.proofs.ReadObjects.{blocks_shown, objects_shown}
use Rattle.cf_model.proofs.laws.the_words_show_blocks_and_objects.Goals as goal

pub returns-clause-blocks : goal.returns-clause-blocks
returns-clause-blocks c = blocks_shown

pub returns-clause-objects : goal.returns-clause-objects
returns-clause-objects c = objects_shown
