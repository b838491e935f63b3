use Rattle.page_model.proofs.Sizes.{first_ones, in_blocks, few_slots}
use Rattle.page_model.proofs.classes.slots_are_few_and_in_blocks.Goals as goal

pub returns-clause-ones : goal.returns-clause-ones
returns-clause-ones c = first_ones

pub returns-clause-blocks : goal.returns-clause-blocks
returns-clause-blocks c = in_blocks

pub returns-clause-few : goal.returns-clause-few
returns-clause-few c = λ p c ok. few_slots p ok c
