use Rattle.std.proofs.Common.{length}
use Rattle.large_objects.proofs.Kept.{handle_there, part_reads, part_there}
use Rattle.large_objects.proofs.heap.LargeHeap.read_part.Goals as goal

pub part_handle-part-requires-clause-has : goal.part_handle-part-requires-clause-has
part_handle-part-requires-clause-has g c = handle_there c.self.inside.is_open c.self.inside.pages c.self.inside.part_bytes c.self.inside.lengths.items
    (g.H.Manager.state c.self.inside.inner) c.args.self.now c.self.view_is
    c.requires.open c.self.invariant c.args.h.0 c.args.i c.args.at _ c.requires.has

pub read_inner-requires-clause-has : goal.read_inner-requires-clause-has
read_inner-requires-clause-has g c = rw c.part_handle-part.ensures.value (part_there c.self.inside.is_open c.self.inside.pages c.self.inside.part_bytes
    c.self.inside.lengths.items (g.H.Manager.state c.self.inside.inner) c.args.self.now c.self.view_is
    c.requires.open c.self.invariant c.args.h.0 c.args.i c.args.at _ c.requires.has)

pub returns-clause-value : goal.returns-clause-value
returns-clause-value g c v found = part_reads c.self.inside.is_open c.self.inside.pages c.self.inside.part_bytes c.self.inside.lengths.items
    (g.H.Manager.state c.self.inside.inner) c.args.self.now c.self.view_is
    c.requires.open c.self.invariant c.args.h.0 c.args.i c.args.at (length c.args.out.now) c.requires.has v found c.read_inner.new.out
    (rw c.part_handle-part.ensures.value at c.read_inner.ensures.value)
