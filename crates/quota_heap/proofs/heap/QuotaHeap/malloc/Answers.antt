use Rattle.quota_heap.specs.Layout.{tasks_state_of}
use Rattle.quota_heap.proofs.Rules.{rules}
use Rattle.quota_heap.proofs.StepCounts.{malloc_most}
use Rattle.quota_heap.proofs.heap.QuotaHeap.malloc.Goals as goal

pub returns-clause-kept : goal.returns-clause-kept
returns-clause-kept c = rules c.malloc.new.self c.malloc.ensures.kept

pub returns-clause-bound : goal.returns-clause-bound
returns-clause-bound c =
    malloc_most (tasks_state_of c.in-Some.open) c.args.task c.args.bytes c.malloc.result c.args.steps.now c.malloc.new.steps c.malloc.ensures.steps
