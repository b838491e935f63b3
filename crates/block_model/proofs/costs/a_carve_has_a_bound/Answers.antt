use Rattle.block_model.proofs.StepBounds.{carve_at_most, none_at_most}
use Rattle.block_model.proofs.costs.a_carve_has_a_bound.Goals as goal

pub returns-clause-carve : goal.returns-clause-carve
returns-clause-carve c = carve_at_most

pub returns-clause-none : goal.returns-clause-none
returns-clause-none c = none_at_most
