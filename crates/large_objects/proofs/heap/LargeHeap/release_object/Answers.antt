use Rattle.large_objects.specs.LargeCosts.{object_free_steps}
use Rattle.large_objects.proofs.Kept.{gone_frees, gone_kept, gone_valid, has_inner_objects, steps_seen}
use Rattle.large_objects.proofs.heap.LargeHeap.release_object.Goals as goal

pub release-requires-clause-has : goal.release-requires-clause-has
release-requires-clause-has g c = has_inner_objects c.self.inside.is_open c.self.inside.pages c.self.inside.part_bytes c.self.inside.lengths.items
    (g.H.Manager.state c.self.inside.inner) c.args.self.now c.self.view_is
    c.requires.open c.self.invariant c.args.h.0 c.args.bytes c.requires.found

pub invariant_of-self : goal.invariant_of-self
invariant_of-self g c = gone_valid c.self.inside.is_open c.self.inside.pages c.self.inside.part_bytes c.self.inside.lengths.items
    (g.H.Manager.state c.self.inside.inner) c.args.self.now c.self.view_is
    c.requires.open c.self.invariant c.args.h.0 c.args.bytes c.requires.found (g.H.Manager.state c.release.new.inner) c.release.ensures.step

pub returns-clause-freed : goal.returns-clause-freed
returns-clause-freed g c = gone_frees c.self.inside.is_open c.self.inside.pages c.self.inside.part_bytes c.self.inside.lengths.items
    (g.H.Manager.state c.self.inside.inner) c.args.self.now c.self.view_is
    c.requires.open c.self.invariant c.args.h.0 c.args.bytes c.requires.found (g.H.Manager.state c.release.new.inner) c.release.ensures.step

pub returns-clause-kept : goal.returns-clause-kept
returns-clause-kept g c = gone_kept c.self.inside.is_open c.self.inside.pages c.self.inside.part_bytes c.self.inside.lengths.items
    (g.H.Manager.state c.self.inside.inner) c.args.self.now c.self.view_is
    c.requires.open c.self.invariant c.args.h.0 c.args.bytes c.requires.found (g.H.Manager.state c.release.new.inner) c.release.ensures.step

pub returns-clause-steps : goal.returns-clause-steps
returns-clause-steps g c = steps_seen c.self.inside.is_open c.self.inside.pages c.self.inside.part_bytes c.self.inside.lengths.items
    (g.H.Manager.state c.self.inside.inner) c.args.self.now c.self.view_is c.requires.open c.self.invariant g.H.StepBounds.most object_free_steps c.args.bytes c.args.steps.now c.release.new.steps c.release.ensures.steps
