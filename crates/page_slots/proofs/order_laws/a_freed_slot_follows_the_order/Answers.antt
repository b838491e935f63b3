use Rattle.page_slots.proofs.NextSlots.{vacated_order}
use Rattle.page_slots.proofs.order_laws.a_freed_slot_follows_the_order.Goals as goal

pub returns : goal.returns
returns c = λ p m old new c page slot spare ok serve o kept class v. vacated_order ok serve o kept class spare v
