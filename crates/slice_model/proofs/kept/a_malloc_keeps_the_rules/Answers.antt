use Rattle.slice_model.proofs.KeptSteps.{kept_malloc}
use Rattle.slice_model.proofs.kept.a_malloc_keeps_the_rules.Goals as goal

pub returns : goal.returns
returns c = λ plan old asked new ok kept. kept_malloc plan ok old kept asked new
