use Rattle.slice_model.proofs.OrderThere.{can_remove}
use Rattle.slice_model.proofs.order.a_sliced_free_can_follow_an_order.Goals as goal

pub returns : goal.returns
returns c = λ plan s h x o ok kept is idle found. (
    let can = can_remove plan ok s kept idle h x found o is in
    (can.new, can.now, can.removes, can.next, can.follows, can.is_order))
