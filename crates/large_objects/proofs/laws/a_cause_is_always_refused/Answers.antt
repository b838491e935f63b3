use Rattle.large_objects.proofs.ObjectLaws.{given_is_not_refused, one_cause, written_has_no_fault}
use Rattle.large_objects.proofs.laws.a_cause_is_always_refused.Goals as goal

pub returns-clause-malloc : goal.returns-clause-malloc
returns-clause-malloc c = λ old new h n e given cause. given_is_not_refused old new h n e given cause

pub returns-clause-one_cause : goal.returns-clause-one_cause
returns-clause-one_cause c = λ s n e f x y. one_cause s n e f x y

pub returns-clause-write : goal.returns-clause-write
returns-clause-write c = λ old new part bytes e w cause. written_has_no_fault old new part bytes e w cause
