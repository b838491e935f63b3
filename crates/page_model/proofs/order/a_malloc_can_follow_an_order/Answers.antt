use Rattle.page_model.proofs.OrderSteps.{can_malloc}
use Rattle.page_model.proofs.order.a_malloc_can_follow_an_order.Goals as goal

pub returns : goal.returns
returns c = λ p m limit n o ok s is lt few room.
    let g = can_malloc p ok m s limit o is n lt few room in
    (g.number, g.place, g.new, g.below, g.unused, g.free, g.follows, g.is_order)
