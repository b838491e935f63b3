use Rattle.page_model.proofs.CallerLemmas.{first_is_order}
use Rattle.slice_model.proofs.order.rising_numbers_are_an_order.Goals as goal

pub returns : goal.returns
returns c = λ plan. first_is_order plan.paging plan.proxies
