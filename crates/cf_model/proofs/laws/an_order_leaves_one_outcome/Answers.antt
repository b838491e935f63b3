use Rattle.cf_model.proofs.OneOutcome.{one_free, one_malloc, one_resize, one_write}
use Rattle.cf_model.proofs.laws.an_order_leaves_one_outcome.Goals as goal

pub returns-clause-malloc : goal.returns-clause-malloc
returns-clause-malloc c = λ old new next bytes r s some before first second. one_malloc old new next some before first second bytes r s

pub returns-clause-free : goal.returns-clause-free
returns-clause-free c = λ old new next h r s some before first second. one_free old new next some before first second h r s

pub returns-clause-resize : goal.returns-clause-resize
returns-clause-resize c = λ old new next asked r s some before first second. one_resize old new next some before first second asked r s

pub returns-clause-write : goal.returns-clause-write
returns-clause-write c = λ old new next part bytes r s first second. one_write old new next first second part bytes r s
