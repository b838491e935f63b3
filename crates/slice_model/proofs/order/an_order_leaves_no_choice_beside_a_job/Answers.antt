use Rattle.slice_model.proofs.OrderOnce.{one_free, one_malloc, one_read, one_slice, one_write}
use Rattle.slice_model.proofs.order.an_order_leaves_no_choice_beside_a_job.Goals as goal

pub returns-clause-malloc : goal.returns-clause-malloc
returns-clause-malloc c = λ plan old bytes a b new other was now next ok good long. one_malloc plan ok old new other was now next good long bytes a b

pub returns-clause-free : goal.returns-clause-free
returns-clause-free c = λ plan old h a b new other was now next ok good long. one_free plan ok old new other was now next good long h a b

pub returns-clause-slice : goal.returns-clause-slice
returns-clause-slice c = λ plan old new other was now next ok good long. one_slice plan ok old new other was now next good long

pub returns-clause-write : goal.returns-clause-write
returns-clause-write c = λ plan old part bytes a b new other was now next ok good long. one_write plan ok old new other was now next good long part bytes a b

pub returns-clause-read : goal.returns-clause-read
returns-clause-read c = λ plan old part n a b new other was now next ok good long. one_read plan ok old new other was now next good long part n a b
