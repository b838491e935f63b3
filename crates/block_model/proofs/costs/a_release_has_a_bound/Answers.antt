use Rattle.block_model.proofs.StepBounds.{release_at_most}
use Rattle.block_model.proofs.costs.a_release_has_a_bound.Goals as goal

pub returns : goal.returns
returns c = release_at_most
