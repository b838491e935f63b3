use Rattle.slice_model.proofs.Results.{slice_there}
use Rattle.slice_model.proofs.room.a_slice_can_always_be_done.Goals as goal

pub returns : goal.returns
returns c = λ plan s ok kept. slice_there plan ok s kept
