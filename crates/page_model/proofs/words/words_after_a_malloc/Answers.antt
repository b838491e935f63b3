use Rattle.page_model.proofs.SlotImages.{place_is_zeros, image_after_malloc}
use Rattle.page_model.proofs.words.words_after_a_malloc.Goals as goal

pub returns-clause-zeros : goal.returns-clause-zeros
returns-clause-zeros c = λ p m words h n a ok s im none f. place_is_zeros p ok m s words im n a f h none

pub returns-clause-header : goal.returns-clause-header
returns-clause-header c = λ p m words h n a ok s im len none f. image_after_malloc p ok m s words im h n a none len f
