use Rattle.std.proofs.Common.{◌≡◌, arith, sym, ◌∙◌, ap, subst, ◌*◌, ◌<◌}
use Rattle.cf_model.specs.State.{paging_in}
use Rattle.large_objects.specs.Growing.{GrowsInner, NamesPart}
use Rattle.large_objects.specs.InnerCalls.{MakesOneInner, HasInnerRoom}
use Rattle.large_objects.specs.InnerObjects.{part_count}
use Rattle.large_objects.specs.LargeCosts.{inner_malloc_steps}
use Rattle.large_objects.proofs.InnerSteps.{same_paging}
use Rattle.large_objects.proofs.CostLemmas.{follow_on, malloc_first, malloc_long, malloc_next, malloc_past}
use Rattle.large_objects.proofs.GrowLemmas.{grows_first, grows_more, place_in_spine, place_is_small, room_for_part, room_for_spine}
use Rattle.large_objects.proofs.malloc.make_long.Goals as goal

pub make_inner-spine-requires-clause-room : goal.make_inner-spine-requires-clause-room
make_inner-spine-requires-clause-room g c =
    let s = g.H.Manager.state c.args.inner.now in
    subst (λ n. HasInnerRoom s (4 * n)) (sym c.count_parts-count.ensures) (room_for_spine c.args.part_bytes c.args.bytes s c.requires.some c.requires.long
    c.requires.room)

pub loop-i-init : goal.loop-i-init
loop-i-init g c =
    let old = g.H.Manager.state c.args.inner.now in
    let new = g.H.Manager.state c.make_inner-spine.new.inner in
    let spine = c.make_inner-spine.ensures in
    record {
      step = grows_first c.args.part_bytes c.args.bytes old new c.make_inner-spine.result.0 c.requires.some c.requires.long
          (subst (λ n. MakesOneInner old c.make_inner-spine.result.0 (4 * n) new) c.count_parts-count.ensures spine.step);
      few = (let f = spine.few in record { kept = f.kept; bound = omega arith });
      steps = λ k follow. (
          let made = spine.steps k follow in
          let b = made.bound in
          let e = ap (λ n. inner_malloc_steps k (paging_in old) (4 * n)) c.count_parts-count.ensures in
          let all = malloc_first k (paging_in old) c.args.part_bytes c.args.bytes in
          let sum = malloc_long k (paging_in old) c.args.part_bytes c.args.bytes c.requires.long in omega arith);
    }

pub make_part-requires-clause-room : goal.make_part-requires-clause-room
make_part-requires-clause-room g c =
    let old = g.H.Manager.state c.args.inner.now in
    let now = g.H.Manager.state c.loop-i.inner in
    let below : c.loop-i.i < part_count c.args.part_bytes c.args.bytes = (let e = c.count_parts-count.ensures in let lt = c.loop-i-test.true in omega arith) in
    subst (λ n. HasInnerRoom now n) (sym c.bytes_of_part.ensures)
    (room_for_part c.args.part_bytes c.args.bytes old now c.make_inner-spine.result.0 c.loop-i.i c.requires.some c.requires.long c.requires.room c.loop-i.invariant.step
    below)

pub make_part-requires-clause-has : goal.make_part-requires-clause-has
make_part-requires-clause-has g c =
    let old = g.H.Manager.state c.args.inner.now in
    let now = g.H.Manager.state c.loop-i.inner in
    let below : c.loop-i.i < part_count c.args.part_bytes c.args.bytes = (let e = c.count_parts-count.ensures in let lt = c.loop-i-test.true in omega arith) in
    place_in_spine c.args.part_bytes c.args.bytes old now c.make_inner-spine.result.0 c.loop-i.i c.requires.some c.requires.long c.requires.room c.loop-i.invariant.step
    below

pub make_part-requires-clause-fits : goal.make_part-requires-clause-fits
make_part-requires-clause-fits g c =
    let old = g.H.Manager.state c.args.inner.now in
    let now = g.H.Manager.state c.loop-i.inner in
    let below : c.loop-i.i < part_count c.args.part_bytes c.args.bytes = (let e = c.count_parts-count.ensures in let lt = c.loop-i-test.true in omega arith) in
    place_is_small c.args.part_bytes c.args.bytes old now c.make_inner-spine.result.0 c.loop-i.i c.requires.some c.requires.long c.requires.room c.loop-i.invariant.step
    below
    (omega arith)

pub make_part-requires-clause-low : goal.make_part-requires-clause-low
make_part-requires-clause-low g c =
    let below = c.loop-i-test.true in let few = c.ranges.bytes.fits in let rose = c.loop-i.invariant.few.bound in omega arith

pub loop-i-preserved : goal.loop-i-preserved
loop-i-preserved g c =
    let old = g.H.Manager.state c.args.inner.now in
    let now = g.H.Manager.state c.loop-i.inner in
    let next = g.H.Manager.state c.make_part.new.inner in
    let below : c.loop-i.i < part_count c.args.part_bytes c.args.bytes = (let e = c.count_parts-count.ensures in let lt = c.loop-i-test.true in omega arith) in
    let inv = c.loop-i.invariant in
    let part = c.make_part.ensures in
    record {
      step = grows_more c.args.part_bytes c.args.bytes old now c.make_inner-spine.result.0 c.loop-i.i c.requires.some c.requires.long c.requires.room inv.step
          below next (subst (λ n. NamesPart now c.make_inner-spine.result.0 c.loop-i.i n next) c.bytes_of_part.ensures part.step);
      few = (let a = inv.few in let b = part.few in record { kept = omega arith; bound = omega arith });
      steps = λ k follow. (
          let so_far = inv.steps k follow in
          let later = follow_on g.H.StepBounds.most old now k inv.step.stays.settings.kind inv.step.stays.promise follow in
          let rose = (part.steps k later).bound in
          let same = ap (λ p. inner_malloc_steps k p c.bytes_of_part.result) (same_paging old now inv.step.stays.settings)
          ∙ ap (inner_malloc_steps k (paging_in old)) c.bytes_of_part.ensures in
          let more = malloc_next k (paging_in old) c.args.part_bytes c.args.bytes c.loop-i.i below in omega arith);
    }

pub returns-clause-step : goal.returns-clause-step
returns-clause-step g c =
    let d : c.loop-i.i ≡ part_count c.args.part_bytes c.args.bytes =
    (let e = c.count_parts-count.ensures in let over = c.loop-i-test.false in let up = c.loop-i.auto.i-end in omega arith) in
    subst (λ i. GrowsInner c.args.part_bytes c.args.bytes (g.H.Manager.state c.args.inner.now) c.make_inner-spine.result.0 i (g.H.Manager.state c.loop-i.inner)) d
    c.loop-i.invariant.step

pub returns-clause-steps : goal.returns-clause-steps
returns-clause-steps g c k follow =
    let past = malloc_past k (paging_in (g.H.Manager.state c.args.inner.now)) c.args.part_bytes c.args.bytes c.loop-i.i
    (let e = c.count_parts-count.ensures in let over = c.loop-i-test.false in omega arith) in
    let few = c.loop-i.invariant.few in
    let rose = c.loop-i.invariant.steps k follow in
    record { kept = few.kept; bound = omega arith }
