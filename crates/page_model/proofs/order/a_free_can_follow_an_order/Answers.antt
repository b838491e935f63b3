use Rattle.page_model.proofs.OrderSteps.{can_free}
use Rattle.page_model.proofs.order.a_free_can_follow_an_order.Goals as goal

pub returns : goal.returns
returns c = λ p m limit h x o ok s is found below.
    let f = can_free p ok m s limit o is h x found below in
    (f.moved, f.new, f.moves, f.follows, f.is_order)
