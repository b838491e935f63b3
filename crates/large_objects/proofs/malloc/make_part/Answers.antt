use Rattle.std.proofs.Common.{◌*◌, arith}
use Rattle.large_objects.proofs.CostLemmas.{follow_on}
use Rattle.large_objects.proofs.GrowLemmas.{inner_beside, part_named}
use Rattle.large_objects.proofs.malloc.make_part.Goals as goal

pub write_inner-requires-clause-has : goal.write_inner-requires-clause-has
write_inner-requires-clause-has g c =
    let has = inner_beside (g.H.Manager.state c.args.inner.now) (g.H.Manager.state c.make_inner-part.new.inner) c.args.spine.0 c.make_inner-part.result.0
    c.args.bytes (4 * c.args.i) 4 c.make_inner-part.ensures.step c.requires.has in
    rw c.to_le_bytes.ensures has

pub returns-clause-step : goal.returns-clause-step
returns-clause-step g c =
    let wrote = rw c.to_le_bytes.ensures at c.write_inner.ensures.step in
    part_named (g.H.Manager.state c.args.inner.now) (g.H.Manager.state c.make_inner-part.new.inner) (g.H.Manager.state c.write_inner.new.inner) c.args.spine.0
    c.args.i c.args.bytes c.make_inner-part.result.0 c.make_inner-part.ensures.step c.requires.has.bytes c.requires.has.found wrote

pub returns-clause-few : goal.returns-clause-few
returns-clause-few g c =
    let made = c.make_inner-part.ensures.few in
    let wrote = c.write_inner.ensures.few in
    let four = rw c.to_le_bytes.ensures at wrote in
    record { kept = omega arith; bound = (let b = four.bound in omega arith) }

pub returns-clause-steps : goal.returns-clause-steps
returns-clause-steps g c k follow =
    let made = c.make_inner-part.ensures.steps k follow in
    let stays = c.make_inner-part.ensures.step.stays in
    let later = follow_on g.H.StepBounds.most (g.H.Manager.state c.args.inner.now) (g.H.Manager.state c.make_inner-part.new.inner) k stays.settings.kind
    stays.promise follow in
    let wrote = rw c.to_le_bytes.ensures at (c.write_inner.ensures.steps k later) in
    record { kept = (let a = made.kept in omega arith); bound = (let a = made.bound in omega arith) }
