use Rattle.block_model.proofs.BucketLaws.{tlsf_lawful, half_fit_lawful}
use Rattle.block_model.proofs.laws.free_lists_are_lawful.Goals as goal

pub returns-clause-tlsf : goal.returns-clause-tlsf
returns-clause-tlsf c = tlsf_lawful

pub returns-clause-half_fit : goal.returns-clause-half_fit
returns-clause-half_fit c = half_fit_lawful
