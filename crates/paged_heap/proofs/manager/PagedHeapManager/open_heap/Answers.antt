use Rattle.paged_heap.specs.Heap.{seen}
use Rattle.paged_heap.proofs.LayoutFacts.{rules}
use Rattle.paged_heap.proofs.manager.PagedHeapManager.open_heap.Goals as goal

pub returns-clause-rules : goal.returns-clause-rules
returns-clause-rules g c = rules (seen g.A.Mapping.kind c.in_ok-open.field-0) c.in_ok-open.ensures.kept.kept
