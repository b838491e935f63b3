use Rattle.block_model.proofs.ReadBlocks.{blocks_read}
use Rattle.block_model.proofs.laws.the_words_show_the_blocks.Goals as goal

pub returns : goal.returns
returns c = blocks_read
