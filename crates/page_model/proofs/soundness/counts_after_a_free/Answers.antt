use Rattle.page_model.proofs.Freeing.{objects_on-removed}
use Rattle.page_model.proofs.Parts.{moved_counts}
use Rattle.page_model.proofs.soundness.counts_after_a_free.Goals as goal

pub returns-clause-still : goal.returns-clause-still
returns-clause-still c = λ p m h a c page x e. objects_on-removed p m h x e c page

pub returns-clause-moved : goal.returns-clause-moved
returns-clause-moved c = λ p m h q c page x y ok s e f must may. moved_counts p ok m s h x e q y f must may c page
