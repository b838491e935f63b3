use Rattle.std.proofs.Common.{◌≡◌, ◌+◌, ◌-◌, ◌*◌, ◌/◌, ◌%◌, ◌≤◌, length, min, take, drop, arith, sym, ◌∙◌, ap, refl, subst}
use Rattle.std.proofs.lemmas.List.{length-drop, length-take, take_all}
use Rattle.large_objects.specs.LargeCosts.{parts_access_steps}
use Rattle.large_objects.specs.LargeSteps.{HasPartRange, part_bytes_in}
use Rattle.large_objects.proofs.AccessLemmas.{length_put, next_read, read_index_small, read_more, read_put}
use Rattle.large_objects.proofs.CostLemmas.{access_first, access_more, access_past}
use Rattle.large_objects.proofs.Kept.{keeps, kept, part_is}
use Rattle.large_objects.proofs.heap.LargeHeap.read_long.Goals as goal

pub parts-init : goal.parts-init
parts-init g c = record {
  part_bytes = part_is c.self.inside.is_open c.self.inside.pages c.self.inside.part_bytes c.self.inside.lengths.items (g.H.Manager.state c.self.inside.inner)
      c.args.self.now c.self.view_is
      c.requires.open c.self.invariant;
  positive = (kept c.self.inside.is_open c.self.inside.pages c.self.inside.part_bytes c.self.inside.lengths.items (g.H.Manager.state c.self.inside.inner)
      c.args.self.now c.self.view_is
      c.requires.open c.self.invariant).some;
  parts = keeps c.self.inside.is_open c.self.inside.pages c.self.inside.part_bytes c.self.inside.lengths.items (g.H.Manager.state c.self.inside.inner)
      c.args.self.now c.self.view_is
      c.requires.open c.self.invariant;
  room = refl;
  some = omega arith;
  so_far = λ v found. refl;
  few = record { kept = omega arith; bound = omega arith };
  steps = λ k follow. access_first k c.self.inside.part_bytes c.args.at (length c.args.out.now) c.args.steps.now;
}

pub read_part-requires-clause-low : goal.read_part-requires-clause-low
read_part-requires-clause-low g c = (let i = c.parts.invariant in let rose = i.few.bound in let e = i.room in omega arith)

pub overflow_cast-i : goal.overflow_cast-i
overflow_cast-i g c =
    let i = c.parts.invariant in
    let small = read_index_small c.args.self.now c.args.h.0 c.args.at c.parts.done c.min-count.result c.self.inside.part_bytes (length c.args.out.now)
    c.requires.has i.parts i.part_bytes
    i.positive (let e = i.room in omega arith) (omega arith) in omega arith

pub read_part-requires-clause-has : goal.read_part-requires-clause-has
read_part-requires-clause-has g c =
    let n = c.min-count.result in
    let i = c.parts.invariant in
    let few : c.parts.done + n ≤ length c.args.out.now = (let e = i.room in omega arith) in
    let long : length (take (c.parts.done + n - c.parts.done) (drop c.parts.done c.parts.out)) ≡ n =
    length-take (c.parts.done + n - c.parts.done) (drop c.parts.done c.parts.out)
    ∙ (let d = length-drop c.parts.done c.parts.out in let e = i.room in omega arith) in
    subst (λ k. HasPartRange c.args.self.now c.args.h.0 ((c.args.at + c.parts.done) / c.self.inside.part_bytes) ((c.args.at + c.parts.done) % c.self.inside.part_bytes)
    k)
    (sym long)
    (next_read c.args.self.now c.args.h.0 c.args.at c.parts.done n c.self.inside.part_bytes (length c.args.out.now) c.requires.has i.parts i.part_bytes i.positive few
    (omega arith) (omega arith))

pub returns-clause-value : goal.returns-clause-value
returns-clause-value g c v found =
    let i = c.parts.invariant in
    let all : length c.parts.out ≤ c.parts.done = omega arith in
    let e : c.parts.done ≡ length c.args.out.now = (let r = i.room in let s = i.some in omega arith) in
    sym (take_all c.parts.done c.parts.out all) ∙ i.so_far v found ∙ ap (λ k. take k (drop c.args.at v)) e

pub parts-preserved : goal.parts-preserved
parts-preserved g c =
    let n = c.min-count.result in
    let i = c.parts.invariant in
    let k : c.parts.done + n - c.parts.done ≡ n = omega arith in
    let few : c.parts.done + n ≤ length c.args.out.now = (let e = i.room in omega arith) in
    let asked : length (take (c.parts.done + n - c.parts.done) (drop c.parts.done c.parts.out)) ≡ n =
    length-take (c.parts.done + n - c.parts.done) (drop c.parts.done c.parts.out)
    ∙ (let d = length-drop c.parts.done c.parts.out in let e = i.room in omega arith) in
    let long : length c.read_part.new.out ≡ n = c.read_part.auto.out ∙ asked in
    let within : c.parts.done + n ≤ length c.parts.out = (let e = i.room in omega arith) in
    let room = length_put c.parts.done (c.parts.done + n - c.parts.done) c.parts.out c.read_part.new.out (omega arith) (omega arith) in
    record {
      part_bytes = i.part_bytes;
      positive = i.positive;
      parts = i.parts;
      room = room ∙ i.room;
      some = omega arith;
      so_far = λ v found. read_put c.args.at c.parts.done n (c.parts.done + n - c.parts.done) v c.parts.out c.read_part.new.out long within
          (read_more c.args.self.now c.args.h.0 c.args.at c.parts.done n c.self.inside.part_bytes (length c.args.out.now) c.requires.has i.parts i.part_bytes
          i.positive few
          (omega arith) v c.read_part.new.out (take c.parts.done c.parts.out) (i.so_far v found)
          (c.read_part.ensures.value v found
          ∙ ap (λ m. take m (drop (part_bytes_in c.args.self.now * ((c.args.at + c.parts.done) / c.self.inside.part_bytes)
          + (c.args.at + c.parts.done) % c.self.inside.part_bytes) v)) asked));
      few = (let a = i.few in let b = c.read_part.ensures.few in record { kept = omega arith; bound = omega arith });
      steps = λ k follow. access_more k c.self.inside.part_bytes c.args.at (length c.args.out.now) c.args.steps.now c.parts.done n _ c.parts.steps
          c.read_part.new.steps i.positive (omega arith) few (c.min-count.ensures ∙ ap (λ m. min (m - c.parts.done)
          (c.self.inside.part_bytes - (c.args.at + c.parts.done) % c.self.inside.part_bytes)) i.room) asked (i.steps k follow) (c.read_part.ensures.steps k follow);
    }

pub returns-clause-steps : goal.returns-clause-steps
returns-clause-steps g c k follow =
    let i = c.parts.invariant in
    let took = access_past k c.self.inside.part_bytes c.args.at (length c.args.out.now) c.args.steps.now c.parts.done c.parts.steps (let e = i.room in omega arith)
    (i.steps k follow) in
    took ∙ ap (λ u. c.args.steps.now + parts_access_steps k u c.args.at (length c.args.out.now)) i.part_bytes
