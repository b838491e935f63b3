use Rattle.slice_model.proofs.KeptSteps.{kept_slice}
use Rattle.slice_model.proofs.kept.a_slice_keeps_the_rules.Goals as goal

pub returns : goal.returns
returns c = λ plan old new ok. kept_slice plan ok old new
