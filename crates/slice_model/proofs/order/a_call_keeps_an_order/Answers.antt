use Rattle.slice_model.proofs.OrderThere.{order_kept}
use Rattle.slice_model.proofs.order.a_call_keeps_an_order.Goals as goal

pub returns : goal.returns
returns c = λ plan old event new was now ok. order_kept plan ok old event new was now
