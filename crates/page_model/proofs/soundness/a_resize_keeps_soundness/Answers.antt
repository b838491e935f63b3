use Rattle.page_model.proofs.Resizing.{sound_resize}
use Rattle.page_model.proofs.soundness.a_resize_keeps_soundness.Goals as goal

pub returns : goal.returns
returns c = sound_resize
