use Rattle.page_model.proofs.Sizes.{first_paged, paged}
use Rattle.page_model.proofs.classes.slot_sizes_rise.Goals as goal

pub returns-clause-first : goal.returns-clause-first
returns-clause-first c = first_paged

pub returns-clause-bounded : goal.returns-clause-bounded
returns-clause-bounded c = paged
