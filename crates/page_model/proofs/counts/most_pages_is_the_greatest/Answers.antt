use Rattle.page_model.proofs.PageLaws.{most_pages_reached, most_pages_least}
use Rattle.page_model.proofs.counts.most_pages_is_the_greatest.Goals as goal

pub returns-clause-reached : goal.returns-clause-reached
returns-clause-reached c = most_pages_reached

pub returns-clause-greatest : goal.returns-clause-greatest
returns-clause-greatest c = most_pages_least
