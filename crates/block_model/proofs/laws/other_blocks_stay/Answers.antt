use Rattle.block_model.proofs.Others.{malloc_stays, free_stays}
use Rattle.block_model.proofs.laws.other_blocks_stay.Goals as goal

pub returns-clause-malloc : goal.returns-clause-malloc
returns-clause-malloc c = malloc_stays

pub returns-clause-free : goal.returns-clause-free
returns-clause-free c = free_stays
