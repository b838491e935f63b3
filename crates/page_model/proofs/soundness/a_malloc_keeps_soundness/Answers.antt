use Rattle.page_model.proofs.Placing.{sound_malloc}
use Rattle.page_model.proofs.soundness.a_malloc_keeps_soundness.Goals as goal

pub returns : goal.returns
returns c = sound_malloc
