use Rattle.block_model.proofs.Releases.{free_keeps_tiling}
use Rattle.block_model.proofs.laws.free_keeps_tiling.Goals as goal

pub returns : goal.returns
returns c = free_keeps_tiling
