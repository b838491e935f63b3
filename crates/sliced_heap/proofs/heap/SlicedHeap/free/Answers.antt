use Rattle.std.proofs.Common.{sym, ◌∙◌, ap}
use Rattle.sliced_heap.specs.Shown.{sliced_shown}
use Rattle.sliced_heap.specs.Steps.{fault_in}
use Rattle.sliced_heap.proofs.Rules.{keeps}
use Rattle.sliced_heap.proofs.StepCounts.{free_bound}
use Rattle.sliced_heap.proofs.heap.SlicedHeap.free.Goals as goal

pub returns-clause-rules : goal.returns-clause-rules
returns-clause-rules c = keeps c.free.new.self c.free.ensures.kept

pub returns-clause-bound : goal.returns-clause-bound
returns-clause-bound c =
    free_bound c.in-Some.open c.args.self.now (ap sliced_shown (sym c.in-Some.is) ∙ c.self.view_is) c.args.steps.now c.free.new.steps c.args.h.0 (fault_in c.free.result) c.free.ensures.steps
