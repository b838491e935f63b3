use Rattle.block_model.proofs.FreeOrderLemmas.{one_carve}
use Rattle.block_model.proofs.free_order.an_order_leaves_one_malloc.Goals as goal

pub returns : goal.returns
returns c = one_carve
