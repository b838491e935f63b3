use Rattle.std.proofs.Common.{◌∙◌}
use Rattle.paged_heap.specs.Heap.{seen}
use Rattle.paged_heap.proofs.ReadLemmas.{place_shown}
use Rattle.paged_heap.proofs.open_heap.OpenHeap.place.Goals as goal

pub returns-clause-value : goal.returns-clause-value
returns-clause-value g c = c.lookup.ensures.found ∙ place_shown (seen g.A.Mapping.kind c.args.self.now) c.args.h.0
