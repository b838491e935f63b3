use Rattle.slice_model.proofs.KeptSteps.{kept_free}
use Rattle.slice_model.proofs.kept.a_free_keeps_the_rules.Goals as goal

pub returns : goal.returns
returns c = λ plan old h new ok kept. kept_free plan ok old kept h new
