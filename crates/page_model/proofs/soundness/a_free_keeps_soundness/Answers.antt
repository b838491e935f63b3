use Rattle.page_model.proofs.FreeSteps.{sound_free}
use Rattle.page_model.proofs.soundness.a_free_keeps_soundness.Goals as goal

pub returns : goal.returns
returns c = sound_free
