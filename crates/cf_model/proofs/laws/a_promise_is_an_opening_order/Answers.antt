use Rattle.cf_model.proofs.OpeningOrders.{opened_in_order}
use Rattle.cf_model.proofs.laws.a_promise_is_an_opening_order.Goals as goal

pub returns-clause-opens : goal.returns-clause-opens
returns-clause-opens c = opened_in_order
