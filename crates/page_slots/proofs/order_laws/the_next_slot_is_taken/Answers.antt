use Rattle.page_slots.proofs.NextSlots.{taken_next}
use Rattle.page_slots.proofs.order_laws.the_next_slot_is_taken.Goals as goal

pub returns : goal.returns
returns c = λ p m old new c a spare ok serve o kept class t. taken_next ok serve o kept class spare t
