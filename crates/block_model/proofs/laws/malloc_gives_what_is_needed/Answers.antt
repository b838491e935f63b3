use Rattle.block_model.proofs.Others.{malloc_gives}
use Rattle.block_model.proofs.laws.malloc_gives_what_is_needed.Goals as goal

pub returns : goal.returns
returns c = malloc_gives
