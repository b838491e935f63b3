use Rattle.block_model.proofs.Steps.{malloc_keeps_tiling}
use Rattle.block_model.proofs.laws.malloc_keeps_tiling.Goals as goal

pub returns : goal.returns
returns c = malloc_keeps_tiling
