use Rattle.page_model.proofs.PageLaws.{can_hold_one, one_can_hold}
use Rattle.page_model.proofs.counts.one_page_count_at_bound_one.Goals as goal

pub returns : goal.returns
returns c = λ p n m pos. (can_hold_one p n m pos, one_can_hold p n m pos)
