use Rattle.slice_model.proofs.OrderThere.{can_slice}
use Rattle.slice_model.proofs.order.a_slice_can_follow_an_order.Goals as goal

pub returns : goal.returns
returns c = λ plan s o ok kept is. (let can = can_slice plan ok s kept o is in (can.new, can.now, can.slice, can.follows, can.is_order))
