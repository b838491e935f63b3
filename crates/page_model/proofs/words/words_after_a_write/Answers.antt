use Rattle.page_model.proofs.SlotImages.{image_after_write}
use Rattle.page_model.proofs.Writing.{image_after_bytes}
use Rattle.page_model.proofs.words.words_after_a_write.Goals as goal

pub returns-clause-bytes : goal.returns-clause-bytes
returns-clause-bytes c = λ p m old new h at x bytes ok s im e fits. image_after_bytes p ok m s old im h x e new at bytes fits

pub returns-clause-slot : goal.returns-clause-slot
returns-clause-slot c = λ p m old new h x bytes ok s im e. image_after_write p ok m s old im h x e new bytes
