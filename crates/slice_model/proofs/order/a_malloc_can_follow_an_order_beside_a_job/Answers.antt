use Rattle.slice_model.proofs.OrderThere.{give_unrefused}
use Rattle.slice_model.proofs.order.a_malloc_can_follow_an_order_beside_a_job.Goals as goal

pub returns : goal.returns
returns c = λ plan s bytes o ok kept is free. (
    let can = give_unrefused plan ok s kept bytes o is free in
    (can.number, can.after, can.new, can.gives, can.follows, can.is_order))
