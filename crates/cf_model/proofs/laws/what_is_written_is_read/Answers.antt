use Rattle.cf_model.proofs.Reading.{read_back, others_kept}
use Rattle.cf_model.proofs.laws.what_is_written_is_read.Goals as goal

pub returns-clause-same : goal.returns-clause-same
returns-clause-same c = λ old new part bytes out w r. read_back old part bytes out new w r

pub returns-clause-others : goal.returns-clause-others
returns-clause-others c = λ old new part bytes w. others_kept old part bytes new w
