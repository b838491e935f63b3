use Rattle.paged_heap.specs.Heap.{seen}
use Rattle.paged_heap.proofs.MallocLemmas.{not_refused}
use Rattle.paged_heap.proofs.open_heap.OpenHeap.has_room.Goals as goal

pub returns-in-Ok-clause-ok : goal.returns-in-Ok-clause-ok
returns-in-Ok-clause-ok g c =
    not_refused (seen g.A.Mapping.kind c.args.self.now) c.requires.kept c.args.bytes _ c.in-Ok.ensures.class
    c.in-Ok.ensures.few c.in-Ok.ensures.slot
