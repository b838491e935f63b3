use Rattle.page_model.proofs.SlotImages.{image_after_free, image_after_move}
use Rattle.page_model.proofs.words.words_after_a_free.Goals as goal

pub returns-clause-still : goal.returns-clause-still
returns-clause-still c = λ p m old new h x ok s im e. image_after_free p ok m s old im h x e new

pub returns-clause-moved : goal.returns-clause-moved
returns-clause-moved c = λ p m old new h q x y ok s im e f. image_after_move p ok m s old im h x e new q y f
