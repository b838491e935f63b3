use Rattle.cf_model.proofs.PageSteps.{free_removes, malloc_places}
use Rattle.cf_model.proofs.laws.calls_are_the_steps_of_pages.Goals as goal

pub returns-clause-malloc : goal.returns-clause-malloc
returns-clause-malloc c = malloc_places

pub returns-clause-free : goal.returns-clause-free
returns-clause-free c = free_removes

pub returns-clause-resize : goal.returns-clause-resize
returns-clause-resize c = λ old new asked done resizes. resizes.step
