use Rattle.page_model.proofs.ResizedWords.{image_after_change, image_after_change_and_move}
use Rattle.page_model.proofs.words.words_after_a_resize.Goals as goal

pub returns-clause-still : goal.returns-clause-still
returns-clause-still c = λ p m old mid new h a spare x bytes ok s im len len' e unused free re. image_after_change p ok m s old mid new im len len' h x e a
    bytes free spare unused re

pub returns-clause-moved : goal.returns-clause-moved
returns-clause-moved c = λ p m old mid new h q a spare x y bytes ok s im len len' e unused free re f must may. image_after_change_and_move p ok m s old mid new
    im len len' h x e a bytes free spare unused re q y f must may
