use Rattle.block_model.proofs.Serving.{carved_or_lacking}
use Rattle.block_model.proofs.laws.a_malloc_is_done_or_lacks_a_block.Goals as goal

pub returns : goal.returns
returns c = carved_or_lacking
