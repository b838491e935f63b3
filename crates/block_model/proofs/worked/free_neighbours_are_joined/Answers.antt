use Rattle.std.proofs.Common.{refl}
use Rattle.block_model.specs.Tiling.{used_blocks, free_blocks}
use Rattle.block_model.proofs.worked.free_neighbours_are_joined.Goals as goal

pub returns-clause-counts : goal.returns-clause-counts
unfolding used_blocks free_blocks
returns-clause-counts c = (refl, refl)
