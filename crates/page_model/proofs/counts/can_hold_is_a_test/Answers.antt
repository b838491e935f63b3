use Rattle.page_model.proofs.PageLaws.{tested, test_shows}
use Rattle.page_model.proofs.counts.can_hold_is_a_test.Goals as goal

pub returns : goal.returns
returns c = λ p n m k. (test_shows p n m k, tested p n m k)
