use Rattle.block_model.proofs.FreeOrderLemmas.{carve_is_malloc}
use Rattle.block_model.proofs.free_order.a_malloc_in_order_is_a_malloc.Goals as goal

pub returns : goal.returns
returns c rule count s new d place of = carve_is_malloc rule count s of d place new
