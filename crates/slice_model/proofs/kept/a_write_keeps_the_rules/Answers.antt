use Rattle.slice_model.proofs.KeptSteps.{kept_write}
use Rattle.slice_model.proofs.kept.a_write_keeps_the_rules.Goals as goal

pub returns : goal.returns
returns c = λ plan old h x bytes ok kept there len. kept_write plan ok old kept h x there bytes len
