use Rattle.std.proofs.Common.{◌≡◌, ◌+◌, ◌-◌, ◌/◌, ◌%◌, ◌≤◌, length, take, drop, arith, sym, ◌∙◌, ap, subst}
use Rattle.std.proofs.lemmas.List.{length-take, length-drop}
use Rattle.std.proofs.lemmas.Option.{same_Some}
use Rattle.large_objects.specs.LargeCosts.{parts_access_steps}
use Rattle.large_objects.specs.LargeSteps.{HasPartRange}
use Rattle.large_objects.proofs.AccessLemmas.{next_write, so_far_more, then_kept, write_index_small, wrote_all, wrote_nothing}
use Rattle.large_objects.proofs.CostLemmas.{access_first, access_more, access_past, follow_on}
use Rattle.large_objects.proofs.Kept.{kept, part_is, same_kept}
use Rattle.large_objects.proofs.heap.LargeHeap.write_long.Goals as goal

pub parts-init : goal.parts-init
parts-init g c = record {
  part_bytes = part_is c.self.inside.is_open c.self.inside.pages c.self.inside.part_bytes c.self.inside.lengths.items (g.H.Manager.state c.self.inside.inner)
      c.args.self.now c.self.view_is
      c.requires.open c.self.invariant;
  positive = (kept c.self.inside.is_open c.self.inside.pages c.self.inside.part_bytes c.self.inside.lengths.items (g.H.Manager.state c.self.inside.inner)
      c.args.self.now c.self.view_is
      c.requires.open c.self.invariant).some;
  some = omega arith;
  opened = c.requires.open;
  so_far = λ v found. wrote_nothing c.args.self.now c.args.h.0 c.args.at c.args.bytes.now v found
      (let same = ap length (same_Some c.requires.has.bytes v (sym c.requires.has.found ∙ found)) in let w = c.requires.has.within in omega arith);
  kept = same_kept c.self.inside.is_open c.self.inside.pages c.self.inside.part_bytes c.self.inside.lengths.items (g.H.Manager.state c.self.inside.inner)
      c.args.self.now c.self.view_is
      c.requires.open c.self.invariant;
  few = record { kept = omega arith; bound = omega arith };
  steps = λ k follow. access_first k c.self.inside.part_bytes c.args.at (length c.args.bytes.now) c.args.steps.now;
}

pub write_part-requires-clause-low : goal.write_part-requires-clause-low
write_part-requires-clause-low g c = (let rose = c.parts.invariant.few.bound in omega arith)

pub write_part-requires-clause-has : goal.write_part-requires-clause-has
write_part-requires-clause-has g c =
    let n = c.min-count.result in
    let i = c.parts.invariant in
    let few : c.parts.done + n ≤ length c.args.bytes.now = omega arith in
    let long : length (take (c.parts.done + n - c.parts.done) (drop c.parts.done c.args.bytes.now)) ≡ n =
    length-take (c.parts.done + n - c.parts.done) (drop c.parts.done c.args.bytes.now) ∙ (let d = length-drop c.parts.done c.args.bytes.now in omega
    arith) in
    subst (λ k. HasPartRange c.parts.self c.args.h.0 ((c.args.at + c.parts.done) / c.self.inside.part_bytes) ((c.args.at + c.parts.done) % c.self.inside.part_bytes)
    k) (sym long)
    (next_write c.args.self.now c.parts.self c.args.h.0 c.args.at c.parts.done n c.self.inside.part_bytes c.args.bytes.now c.requires.has i.so_far i.kept i.part_bytes
    i.positive few
    (omega arith) (omega arith))

pub overflow_cast-i : goal.overflow_cast-i
overflow_cast-i g c =
    let i = c.parts.invariant in
    let small = write_index_small c.args.self.now c.parts.self c.args.h.0 c.args.at c.parts.done c.min-count.result c.self.inside.part_bytes c.args.bytes.now
    c.requires.has i.so_far
    i.kept i.part_bytes i.positive (omega arith) (omega arith) in omega arith

pub parts-preserved : goal.parts-preserved
parts-preserved g c =
    let n = c.min-count.result in
    let i = c.parts.invariant in
    let few : c.parts.done + n ≤ length c.args.bytes.now = omega arith in
    let k : c.parts.done + n - c.parts.done ≡ n = omega arith in
    let long : length (take (c.parts.done + n - c.parts.done) (drop c.parts.done c.args.bytes.now)) ≡ n =
    length-take (c.parts.done + n - c.parts.done) (drop c.parts.done c.args.bytes.now) ∙ (let d = length-drop c.parts.done c.args.bytes.now in omega
    arith) in
    record {
      part_bytes = i.part_bytes;
      positive = i.positive;
      some = few;
      opened = c.write_part.ensures.kept.stays.open_now;
      so_far = so_far_more c.args.self.now c.parts.self c.args.h.0 c.args.at c.parts.done n c.self.inside.part_bytes c.args.bytes.now c.requires.has i.so_far
          i.kept
          i.part_bytes i.positive few (omega arith) c.write_part.new.self _ (ap (λ m. take m (drop c.parts.done c.args.bytes.now)) k) c.write_part.ensures.writes;
      kept = then_kept c.args.self.now c.parts.self c.write_part.new.self i.kept c.write_part.ensures.kept;
      few = (let a = i.few in let b = c.write_part.ensures.few in let l = long in record { kept = omega arith; bound = omega arith });
      steps = λ k follow. access_more k c.self.inside.part_bytes c.args.at (length c.args.bytes.now) c.args.steps.now c.parts.done n _ c.parts.steps
          c.write_part.new.steps i.positive (omega arith) few c.min-count.ensures long (i.steps k follow)
          (c.write_part.ensures.steps k (follow_on g.H.StepBounds.most c.args.self.now.inner c.parts.self.inner k i.kept.stays.inner.kind i.kept.stays.promise follow));
    }

pub returns-clause-writes : goal.returns-clause-writes
returns-clause-writes g c = wrote_all c.args.self.now c.parts.self c.args.h.0 c.args.at c.parts.done c.args.bytes.now c.requires.has (omega arith)
    c.parts.invariant.so_far

pub returns-clause-steps : goal.returns-clause-steps
returns-clause-steps g c k follow =
    let took = access_past k c.self.inside.part_bytes c.args.at (length c.args.bytes.now) c.args.steps.now c.parts.done c.parts.steps (omega arith)
    (c.parts.invariant.steps k follow) in
    took ∙ ap (λ u. c.args.steps.now + parts_access_steps k u c.args.at (length c.args.bytes.now)) c.parts.invariant.part_bytes
