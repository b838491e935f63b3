use Rattle.large_objects.proofs.Kept.{handle_there, long_kept, long_valid, long_writes, part_there, ready}
use Rattle.large_objects.proofs.heap.LargeHeap.write_part.Goals as goal

pub part_handle-part-requires-clause-ready : goal.part_handle-part-requires-clause-ready
part_handle-part-requires-clause-ready g c = ready c.self.inside.is_open c.self.inside.pages c.self.inside.part_bytes c.self.inside.lengths.items
    (g.H.Manager.state c.self.inside.inner) c.args.self.now c.self.view_is
    c.requires.open c.self.invariant

pub part_handle-part-requires-clause-has : goal.part_handle-part-requires-clause-has
part_handle-part-requires-clause-has g c = handle_there c.self.inside.is_open c.self.inside.pages c.self.inside.part_bytes c.self.inside.lengths.items
    (g.H.Manager.state c.self.inside.inner) c.args.self.now c.self.view_is
    c.requires.open c.self.invariant c.args.h.0 c.args.i c.args.at _ c.requires.has

pub write_inner-requires-clause-ready : goal.write_inner-requires-clause-ready
write_inner-requires-clause-ready g c = ready c.self.inside.is_open c.self.inside.pages c.self.inside.part_bytes c.self.inside.lengths.items
    (g.H.Manager.state c.self.inside.inner) c.args.self.now c.self.view_is
    c.requires.open c.self.invariant

pub write_inner-requires-clause-has : goal.write_inner-requires-clause-has
write_inner-requires-clause-has g c = rw c.part_handle-part.ensures.value (part_there c.self.inside.is_open c.self.inside.pages c.self.inside.part_bytes
    c.self.inside.lengths.items (g.H.Manager.state c.self.inside.inner) c.args.self.now c.self.view_is
    c.requires.open c.self.invariant c.args.h.0 c.args.i c.args.at _ c.requires.has)

pub invariant_of-self : goal.invariant_of-self
invariant_of-self g c = long_valid c.self.inside.is_open c.self.inside.pages c.self.inside.part_bytes c.self.inside.lengths.items
    (g.H.Manager.state c.self.inside.inner) c.args.self.now c.self.view_is
    c.requires.open c.self.invariant c.args.h.0 c.args.i c.args.at c.args.bytes.now c.requires.has (g.H.Manager.state c.write_inner.new.inner)
    (rw c.part_handle-part.ensures.value at c.write_inner.ensures.step)

pub returns-clause-writes : goal.returns-clause-writes
returns-clause-writes g c = long_writes c.self.inside.is_open c.self.inside.pages c.self.inside.part_bytes c.self.inside.lengths.items
    (g.H.Manager.state c.self.inside.inner) c.args.self.now c.self.view_is
    c.requires.open c.self.invariant c.args.h.0 c.args.i c.args.at c.args.bytes.now c.requires.has (g.H.Manager.state c.write_inner.new.inner)
    (rw c.part_handle-part.ensures.value at c.write_inner.ensures.step)

pub returns-clause-kept : goal.returns-clause-kept
returns-clause-kept g c = long_kept c.self.inside.is_open c.self.inside.pages c.self.inside.part_bytes c.self.inside.lengths.items
    (g.H.Manager.state c.self.inside.inner) c.args.self.now c.self.view_is
    c.requires.open c.self.invariant c.args.h.0 c.args.i c.args.at c.args.bytes.now c.requires.has (g.H.Manager.state c.write_inner.new.inner)
    (rw c.part_handle-part.ensures.value at c.write_inner.ensures.step)
