use Rattle.sliced_heap.proofs.Rules.{keeps}
use Rattle.sliced_heap.proofs.heap.SlicedHeap.write.Goals as goal

pub returns-clause-rules : goal.returns-clause-rules
returns-clause-rules c = keeps c.write.new.self c.write.ensures.kept
