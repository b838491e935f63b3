use Rattle.page_model.proofs.PageLaws.{can_hold_bound}
use Rattle.page_model.proofs.counts.pages_are_within_the_bound.Goals as goal

pub returns : goal.returns
returns c = can_hold_bound
