use Rattle.page_model.proofs.Placing.{objects_on-inserted}
use Rattle.page_model.proofs.soundness.counts_after_a_malloc.Goals as goal

pub returns : goal.returns
returns c = λ p m h c page x none. objects_on-inserted p m h x none c page
