use Rattle.quota_heap.specs.Layout.{tasks_state_of}
use Rattle.quota_heap.proofs.Rules.{rules}
use Rattle.quota_heap.proofs.StepCounts.{free_most}
use Rattle.quota_heap.proofs.heap.QuotaHeap.free.Goals as goal

pub returns-clause-kept : goal.returns-clause-kept
returns-clause-kept c = rules c.free.new.self c.free.ensures.kept

pub returns-clause-bound : goal.returns-clause-bound
returns-clause-bound c =
    free_most (tasks_state_of c.in-Some.open) c.args.task c.args.h.0 c.free.result (tasks_state_of c.free.new.self) c.free.ensures.step c.args.steps.now c.free.new.steps
    c.free.ensures.steps
