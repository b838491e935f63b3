use Rattle.std.proofs.Common.{arith}
use Rattle.cf_model.specs.State.{paging_in}
use Rattle.large_objects.proofs.CostLemmas.{follow_on, free_long}
use Rattle.large_objects.proofs.ShrinkLemmas.{releases_long, spine_costs, spine_is_live}
use Rattle.large_objects.proofs.free.release_long.Goals as goal

pub release_inner-requires-clause-ready : goal.release_inner-requires-clause-ready
release_inner-requires-clause-ready g c = c.release_parts.ensures.step.stays.ready

pub release_inner-requires-clause-live : goal.release_inner-requires-clause-live
release_inner-requires-clause-live g c = spine_is_live c.args.part_bytes c.args.bytes (g.H.Manager.state c.args.inner.now)
    (g.H.Manager.state c.release_parts.new.inner)
    c.args.spine.0 c.requires.has c.release_parts.ensures.step

pub returns-clause-step : goal.returns-clause-step
returns-clause-step g c = releases_long c.args.part_bytes c.args.bytes (g.H.Manager.state c.args.inner.now) (g.H.Manager.state c.release_parts.new.inner)
    (g.H.Manager.state c.release_inner.new.inner) c.args.spine.0 c.requires.long c.release_parts.ensures.step c.release_inner.ensures.step

pub returns-clause-steps : goal.returns-clause-steps
returns-clause-steps g c k follow =
    let old = g.H.Manager.state c.args.inner.now in
    let parts = c.release_parts.ensures.steps k follow in
    let spine = spine_costs c.args.part_bytes c.args.bytes old (g.H.Manager.state c.release_parts.new.inner) c.args.spine.0 c.requires.has
    c.release_parts.ensures.step k c.release_parts.new.steps c.release_inner.new.steps (c.release_inner.ensures.steps k
    (follow_on g.H.StepBounds.most old (g.H.Manager.state c.release_parts.new.inner) k c.release_parts.ensures.step.stays.settings.kind
    c.release_parts.ensures.step.stays.promise follow)) in
    let sum = free_long k (paging_in old) c.args.part_bytes c.args.bytes c.requires.long in
    record { kept = (let a = parts.kept in let b = spine.kept in omega arith); bound = (let a = parts.bound in let b = spine.bound in omega arith) }
