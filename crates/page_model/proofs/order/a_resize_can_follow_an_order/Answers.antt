use Rattle.page_model.proofs.OrderSteps.{can_resize}
use Rattle.page_model.proofs.order.a_resize_can_follow_an_order.Goals as goal

pub returns : goal.returns
returns c = λ p m limit asked x o ok s is found lt room.
    let r = can_resize p ok m s limit o is asked.number asked.length x found lt room in
    (r.after, r.new, r.step, r.follows, r.is_order)
