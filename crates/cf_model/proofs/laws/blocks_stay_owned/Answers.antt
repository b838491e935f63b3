use Rattle.cf_model.proofs.Owning.{owned_malloc, owned_free}
use Rattle.cf_model.proofs.laws.blocks_stay_owned.Goals as goal

pub returns-clause-malloc : goal.returns-clause-malloc
returns-clause-malloc c = owned_malloc

pub returns-clause-free : goal.returns-clause-free
returns-clause-free c = owned_free
