use Rattle.page_slots.proofs.NextSlots.{order_is}
use Rattle.page_slots.proofs.order_laws.the_order_is_of_the_arrangement.Goals as goal

pub returns : goal.returns
returns c = λ p m t limit spare ok serve o. order_is ok serve o limit spare
