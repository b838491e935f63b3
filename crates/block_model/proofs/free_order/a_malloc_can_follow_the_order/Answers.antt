use Rattle.block_model.proofs.FreeOrderLemmas.{carve_follows}
use Rattle.block_model.proofs.free_order.a_malloc_can_follow_the_order.Goals as goal

pub returns : goal.returns
returns c rule count s d a b of = carve_follows rule count s of d a b
