use Rattle.sliced_heap.proofs.Rules.{keeps}
use Rattle.sliced_heap.proofs.heap.SlicedHeap.open_heap.Goals as goal

pub returns-clause-rules : goal.returns-clause-rules
returns-clause-rules c = keeps c.in_ok-new.field-0 c.in_ok-new.ensures.kept
