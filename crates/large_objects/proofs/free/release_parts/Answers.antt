use Rattle.std.proofs.Common.{◌≡◌, arith, ◌<◌, subst}
use Rattle.cf_model.specs.State.{paging_in}
use Rattle.large_objects.specs.InnerObjects.{part_count}
use Rattle.large_objects.specs.Shrinking.{Shrinks}
use Rattle.large_objects.proofs.CostLemmas.{follow_on, free_first, free_past}
use Rattle.large_objects.proofs.ShrinkLemmas.{free_more, next_there, parts_small, place_there, shrinks_first, shrinks_more}
use Rattle.large_objects.proofs.free.release_parts.Goals as goal

pub loop-i-init : goal.loop-i-init
loop-i-init g c = record {
  step = shrinks_first c.args.part_bytes c.args.bytes (g.H.Manager.state c.args.inner.now) c.args.spine.0 c.requires.some c.requires.long c.requires.has
      c.requires.ready;
  few = record { kept = omega arith; bound = omega arith };
  steps = λ k follow. (
      let all = free_first k (paging_in (g.H.Manager.state c.args.inner.now)) c.args.part_bytes c.args.bytes in
      omega arith);
}

pub release_part-requires-clause-has : goal.release_part-requires-clause-has
release_part-requires-clause-has g c =
    let below : c.loop-i.i < part_count c.args.part_bytes c.args.bytes = (let e = c.count_parts-i-end.ensures in let lt = c.loop-i-test.true in omega arith) in
    place_there c.args.part_bytes c.args.bytes (g.H.Manager.state c.args.inner.now) (g.H.Manager.state c.loop-i.inner) c.args.spine.0 c.loop-i.i c.requires.some
    c.requires.long c.requires.has c.loop-i.invariant.step below

pub release_part-requires-clause-live : goal.release_part-requires-clause-live
release_part-requires-clause-live g c =
    let below : c.loop-i.i < part_count c.args.part_bytes c.args.bytes = (let e = c.count_parts-i-end.ensures in let lt = c.loop-i-test.true in omega arith) in
    next_there c.args.part_bytes c.args.bytes (g.H.Manager.state c.args.inner.now) (g.H.Manager.state c.loop-i.inner) c.args.spine.0 c.loop-i.i c.requires.some
    c.requires.long c.requires.has c.loop-i.invariant.step below

pub release_part-requires-clause-low : goal.release_part-requires-clause-low
release_part-requires-clause-low g c =
    let few = parts_small c.args.part_bytes c.args.bytes (g.H.Manager.state c.args.inner.now) c.args.spine.0 c.requires.ready c.requires.has in
    let e = c.count_parts-i-end.ensures in let lt = c.loop-i-test.true in let rose = c.loop-i.invariant.few.bound in omega arith

pub loop-i-preserved : goal.loop-i-preserved
loop-i-preserved g c =
    let below : c.loop-i.i < part_count c.args.part_bytes c.args.bytes = (let e = c.count_parts-i-end.ensures in let lt = c.loop-i-test.true in omega arith) in
    let old = g.H.Manager.state c.args.inner.now in
    let now = g.H.Manager.state c.loop-i.inner in
    let inv = c.loop-i.invariant in
    let part = c.release_part.ensures in
    record {
      step = shrinks_more c.args.part_bytes c.args.bytes old now c.args.spine.0 c.loop-i.i c.requires.some
          c.requires.long c.requires.has inv.step below (g.H.Manager.state c.release_part.new.inner) part.step;
      few = (let a = inv.few in let b = part.few in record { kept = omega arith; bound = omega arith });
      steps = λ k follow. free_more c.args.part_bytes c.args.bytes old now c.args.spine.0 c.loop-i.i c.requires.some c.requires.long c.requires.has inv.step
          below k c.args.steps.now c.loop-i.steps c.release_part.new.steps (inv.steps k follow)
          (part.steps k (follow_on g.H.StepBounds.most old now k inv.step.stays.settings.kind inv.step.stays.promise follow));
    }

pub returns-clause-step : goal.returns-clause-step
returns-clause-step g c =
    let d : c.loop-i.i ≡ part_count c.args.part_bytes c.args.bytes =
    (let e = c.count_parts-i-end.ensures in let over = c.loop-i-test.false in let up = c.loop-i.auto.i-end in omega arith) in
    subst (λ i. Shrinks c.args.part_bytes c.args.bytes (g.H.Manager.state c.args.inner.now) c.args.spine.0 i (g.H.Manager.state c.loop-i.inner)) d
    c.loop-i.invariant.step

pub returns-clause-few : goal.returns-clause-few
returns-clause-few g c =
    let few = parts_small c.args.part_bytes c.args.bytes (g.H.Manager.state c.args.inner.now) c.args.spine.0 c.requires.ready c.requires.has in
    let e = c.count_parts-i-end.ensures in let up = c.loop-i.auto.i-end in let rose = c.loop-i.invariant.few in
    record { kept = omega arith; bound = omega arith }

pub returns-clause-steps : goal.returns-clause-steps
returns-clause-steps g c k follow =
    let past = free_past k (paging_in (g.H.Manager.state c.args.inner.now)) c.args.part_bytes c.args.bytes c.loop-i.i
    (let e = c.count_parts-i-end.ensures in let over = c.loop-i-test.false in omega arith) in
    let few = c.loop-i.invariant.few in
    let rose = c.loop-i.invariant.steps k follow in
    record { kept = few.kept; bound = omega arith }
