use Rattle.cf_base.specs.Classes.{need}
use Rattle.page_model.specs.Image.{slot_for}
use Rattle.page_model.proofs.ImageSteps.{image_unique}
use Rattle.page_model.proofs.Nothing.{image_empty}
use Rattle.page_model.proofs.SlotImages.{own_words}
use Rattle.page_model.proofs.words.objects_determine_words.Goals as goal

pub returns-clause-one : goal.returns-clause-one
returns-clause-one c = image_unique need

pub returns-clause-empty : goal.returns-clause-empty
returns-clause-empty c = λ p n. image_empty (slot_for p) n

pub returns-clause-own : goal.returns-clause-own
returns-clause-own c = λ p m words ok s im. own_words p ok m s words im
