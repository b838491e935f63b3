use Rattle.cf_model.proofs.Reading.{freed_is_gone}
use Rattle.cf_model.proofs.laws.what_is_freed_is_gone.Goals as goal

pub returns : goal.returns
returns c = λ old new h freed f. freed_is_gone old h freed new f
