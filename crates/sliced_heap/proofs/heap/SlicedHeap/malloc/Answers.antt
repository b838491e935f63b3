use Rattle.std.proofs.Common.{sym, ◌∙◌, ap}
use Rattle.sliced_heap.specs.Shown.{sliced_shown}
use Rattle.sliced_heap.proofs.Rules.{keeps}
use Rattle.sliced_heap.proofs.StepCounts.{malloc_bound}
use Rattle.sliced_heap.proofs.heap.SlicedHeap.malloc.Goals as goal

pub returns-clause-rules : goal.returns-clause-rules
returns-clause-rules c = keeps c.malloc.new.self c.malloc.ensures.kept

pub returns-clause-bound : goal.returns-clause-bound
returns-clause-bound c =
    malloc_bound c.in-Some.open c.args.self.now (ap sliced_shown (sym c.in-Some.is) ∙ c.self.view_is) c.args.steps.now c.malloc.new.steps c.args.bytes c.malloc.result c.malloc.ensures.steps
