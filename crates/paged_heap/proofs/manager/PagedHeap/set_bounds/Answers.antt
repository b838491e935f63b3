use Rattle.paged_heap.specs.Heap.{seen}
use Rattle.paged_heap.proofs.LayoutFacts.{rules}
use Rattle.paged_heap.proofs.manager.PagedHeap.set_bounds.Goals as goal

pub returns-clause-rules : goal.returns-clause-rules
returns-clause-rules g c = rules (seen g.A.Mapping.kind c.set_bounds.new.self) c.set_bounds.ensures.kept.kept
