use Rattle.page_model.proofs.Counting.{home-changed, not_full-changed}
use Rattle.page_model.proofs.soundness.page_counts_follow_one_page.Goals as goal

pub returns-clause-pages : goal.returns-clause-pages
returns-clause-pages c = λ p old new c page lt same. home-changed p old new c page same lt

pub returns-clause-not_full : goal.returns-clause-not_full
returns-clause-not_full c = λ p old new c page lt same. not_full-changed p old new c page same lt
