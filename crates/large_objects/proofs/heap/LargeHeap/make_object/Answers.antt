use Rattle.std.proofs.Common.{arith}
use Rattle.large_objects.specs.LargeCosts.{object_malloc_steps}
use Rattle.large_objects.proofs.Kept.{kept, made_below, made_gives, made_kept, made_valid, object_room, steps_seen}
use Rattle.large_objects.proofs.heap.LargeHeap.make_object.Goals as goal

pub make-h-requires-clause-some : goal.make-h-requires-clause-some
make-h-requires-clause-some g c = (kept c.self.inside.is_open c.self.inside.pages c.self.inside.part_bytes c.self.inside.lengths.items
    (g.H.Manager.state c.self.inside.inner) c.args.self.now c.self.view_is
    c.requires.open c.self.invariant).some

pub make-h-requires-clause-room : goal.make-h-requires-clause-room
make-h-requires-clause-room g c = object_room c.self.inside.is_open c.self.inside.pages c.self.inside.part_bytes c.self.inside.lengths.items
    (g.H.Manager.state c.self.inside.inner) c.args.self.now c.self.view_is
    c.requires.open c.self.invariant c.args.bytes c.requires.room

pub invariant_of-self : goal.invariant_of-self
invariant_of-self g c = made_valid c.self.inside.is_open c.self.inside.pages c.self.inside.part_bytes c.self.inside.lengths.items
    (g.H.Manager.state c.self.inside.inner) c.args.self.now c.self.view_is
    c.requires.open c.self.invariant c.args.bytes c.make-h.result.0 (g.H.Manager.state c.make-h.new.inner) c.requires.room c.make-h.ensures.step

pub returns-clause-given : goal.returns-clause-given
returns-clause-given g c = made_gives c.self.inside.is_open c.self.inside.pages c.self.inside.part_bytes c.self.inside.lengths.items
    (g.H.Manager.state c.self.inside.inner) c.args.self.now c.self.view_is
    c.requires.open c.self.invariant c.args.bytes c.make-h.result.0 (g.H.Manager.state c.make-h.new.inner) c.requires.room c.make-h.ensures.step

pub returns-clause-kept : goal.returns-clause-kept
returns-clause-kept g c = made_kept c.self.inside.is_open c.self.inside.pages c.self.inside.part_bytes c.self.inside.lengths.items
    (g.H.Manager.state c.self.inside.inner) c.args.self.now c.self.view_is
    c.requires.open c.self.invariant c.args.bytes c.make-h.result.0 (g.H.Manager.state c.make-h.new.inner) c.requires.room c.make-h.ensures.step

pub index_mut-requires : goal.index_mut-requires
index_mut-requires g c = (let lt = made_below c.self.inside.is_open c.self.inside.pages c.self.inside.part_bytes c.self.inside.lengths.items
    (g.H.Manager.state c.self.inside.inner) c.args.self.now c.self.view_is
    c.requires.open c.self.invariant c.args.bytes c.make-h.result.0 (g.H.Manager.state c.make-h.new.inner) c.make-h.ensures.step in omega arith)

pub returns-clause-steps : goal.returns-clause-steps
returns-clause-steps g c = steps_seen c.self.inside.is_open c.self.inside.pages c.self.inside.part_bytes c.self.inside.lengths.items
    (g.H.Manager.state c.self.inside.inner) c.args.self.now c.self.view_is c.requires.open c.self.invariant g.H.StepBounds.most object_malloc_steps c.args.bytes c.args.steps.now c.make-h.new.steps c.make-h.ensures.steps
