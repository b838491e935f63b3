use Rattle.page_slots.proofs.NextSlots.{filler_next}
use Rattle.page_slots.proofs.order_laws.the_filler_is_next_to_move.Goals as goal

pub returns : goal.returns
returns c = λ p m t c a y spare ok serve o class f at. filler_next ok serve o class spare f y at
