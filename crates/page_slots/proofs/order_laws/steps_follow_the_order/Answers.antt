use Rattle.std.proofs.Common.{[]}
use Rattle.page_slots.proofs.NextSlots.{drop_same, fill_same, steps_same}
use Rattle.page_slots.proofs.order_laws.steps_follow_the_order.Goals as goal

pub returns-clause-take : goal.returns-clause-take
returns-clause-take c = λ p m old new c a spare serve o class t. steps_same serve o class spare a new t

pub returns-clause-drop : goal.returns-clause-drop
returns-clause-drop c = λ p m t c page serve o class of. drop_same serve o class [] page of

pub returns-clause-fill : goal.returns-clause-fill
returns-clause-fill c = λ p m t c page spare serve o class front. fill_same serve o class spare page front
