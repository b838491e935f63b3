use Rattle.page_model.proofs.Frames.{physical_word}
use Rattle.page_model.proofs.blocks.slots_are_in_their_blocks.Goals as goal

pub returns : goal.returns
returns c = λ p m frames words physical f im ph h i x e. physical_word p f.paged f.blocks m f.sound frames words physical f.count im ph h x e i
