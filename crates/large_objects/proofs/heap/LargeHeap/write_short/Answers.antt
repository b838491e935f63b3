use Rattle.large_objects.proofs.Kept.{ready, short_kept, short_inner, short_valid, short_writes}
use Rattle.large_objects.proofs.heap.LargeHeap.write_short.Goals as goal

pub write_inner-requires-clause-ready : goal.write_inner-requires-clause-ready
write_inner-requires-clause-ready g c = ready c.self.inside.is_open c.self.inside.pages c.self.inside.part_bytes c.self.inside.lengths.items
    (g.H.Manager.state c.self.inside.inner) c.args.self.now c.self.view_is
    c.requires.open c.self.invariant

pub write_inner-requires-clause-has : goal.write_inner-requires-clause-has
write_inner-requires-clause-has g c = short_inner c.self.inside.is_open c.self.inside.pages c.self.inside.part_bytes c.self.inside.lengths.items
    (g.H.Manager.state c.self.inside.inner) c.args.self.now c.self.view_is
    c.requires.open c.self.invariant c.args.h.0 c.args.at _ c.requires.has

pub invariant_of-self : goal.invariant_of-self
invariant_of-self g c = short_valid c.self.inside.is_open c.self.inside.pages c.self.inside.part_bytes c.self.inside.lengths.items
    (g.H.Manager.state c.self.inside.inner) c.args.self.now c.self.view_is
    c.requires.open c.self.invariant c.args.h.0 c.args.at c.args.bytes.now c.requires.has (g.H.Manager.state c.write_inner.new.inner) c.write_inner.ensures.step

pub returns-clause-writes : goal.returns-clause-writes
returns-clause-writes g c = short_writes c.self.inside.is_open c.self.inside.pages c.self.inside.part_bytes c.self.inside.lengths.items
    (g.H.Manager.state c.self.inside.inner) c.args.self.now c.self.view_is
    c.requires.open c.self.invariant c.args.h.0 c.args.at c.args.bytes.now c.requires.has (g.H.Manager.state c.write_inner.new.inner) c.write_inner.ensures.step

pub returns-clause-kept : goal.returns-clause-kept
returns-clause-kept g c = short_kept c.self.inside.is_open c.self.inside.pages c.self.inside.part_bytes c.self.inside.lengths.items
    (g.H.Manager.state c.self.inside.inner) c.args.self.now c.self.view_is
    c.requires.open c.self.invariant c.args.h.0 c.args.at c.args.bytes.now c.requires.has (g.H.Manager.state c.write_inner.new.inner) c.write_inner.ensures.step
