use Rattle.std.proofs.Common.{get_or, arith, refl, rules, sym, ◌∙◌, ap}
use Rattle.sliced_heap.specs.Heap.{sliced_seen}
use Rattle.page_model.specs.Paging.{classes}
use Rattle.page_slots.specs.Orders.{order_of}
use Rattle.sliced_heap.specs.Layout.{sliced_paging}
use Rattle.sliced_heap.specs.declared.open_heap.OpenHeap.{OpenHeap}
use Rattle.sliced_heap.proofs.ByteCounts.{asked_room, taken_room}
use Rattle.sliced_heap.proofs.Facts.{only_tables, seen_with}
use Rattle.sliced_heap.proofs.MallocLemmas.{given_from, lacks_proxy, lacks_slot, lacks_space, lacks_takes, live_room, malloc_takes, place_inside, within_of}
use Rattle.sliced_heap.proofs.open_heap.OpenHeap.malloc.Goals as goal

pub returns-then-live-self-clause-step : goal.returns-then-live-self-clause-step
returns-then-live-self-clause-step c = (
  lacks_proxy (sliced_seen c.args.self.now) c.requires c.args.bytes c.in-Some.c c.in-Some.ensures.found (sym c.live.ensures.count ∙ c.if-live-self.true),
  refl,
)

pub returns-then-is_over-clause-step : goal.returns-then-is_over-clause-step
returns-then-is_over-clause-step c = (
  lacks_space (sliced_seen c.args.self.now) c.requires c.args.bytes c.in-Some.c c.in-Some.ensures.found (λ e. c.if-live-self.false (c.live.ensures.count ∙ e))
      (c.is_over.ensures.0 c.if-is_over.true),
  refl,
)

pub returns-in_default-take_slot-clause-step : goal.returns-in_default-take_slot-clause-step
returns-in_default-take_slot-clause-step c = (
  lacks_slot (sliced_seen c.args.self.now) c.requires c.args.bytes c.in-Some.c c.in-Some.ensures.found (λ e. c.if-live-self.false (c.live.ensures.count ∙ e))
      (within_of c.is_over.result _ _ c.is_over.ensures c.if-is_over.false) _ c.in_default-take_slot.ensures.taken,
  refl,
)

pub returns-then-live-self-clause-ordered : goal.returns-then-live-self-clause-ordered
returns-then-live-self-clause-ordered c = (
  returns-then-live-self-clause-step c,
  refl,
)

pub returns-then-is_over-clause-ordered : goal.returns-then-is_over-clause-ordered
returns-then-is_over-clause-ordered c = (
  returns-then-is_over-clause-step c,
  refl,
)

pub returns-in_default-take_slot-clause-ordered : goal.returns-in_default-take_slot-clause-ordered
returns-in_default-take_slot-clause-ordered c = (
  returns-in_default-take_slot-clause-step c,
  ap (λ t. order_of (classes (sliced_paging (sliced_seen c.args.self.now))) t c.args.self.now.proxies.free) c.in_default-take_slot.ensures.taken.2,
)

pub bind-handle-requires-clause-within : goal.bind-handle-requires-clause-within
bind-handle-requires-clause-within c =
    let lt = place_inside (sliced_seen c.args.self.now) c.requires c.args.bytes c.in-Some.c c.in-Some.ensures.found
    (λ e. c.if-live-self.false (c.live.ensures.count ∙ e))
    (within_of c.is_over.result _ _ c.is_over.ensures c.if-is_over.false) _ c.in-Some-take_slot.place c.in-Some-take_slot.ensures.taken
    c.take_slot.ensures.kept in
    omega arith

pub count_in-requires-clause-live : goal.count_in-requires-clause-live
count_in-requires-clause-live c =
    let l = live_room (sliced_seen c.args.self.now) c.requires c.args.bytes c.in-Some.c c.in-Some.ensures.found in
    let e = ap (λ (x : OpenHeap). get_or x.live c.in-Some.c 0) c.bind-handle.ensures.whole in
    omega arith

pub count_in-requires-clause-asked : goal.count_in-requires-clause-asked
count_in-requires-clause-asked c =
    let l = asked_room (sliced_seen c.args.self.now) c.requires in
    let e = ap (λ (x : OpenHeap). x.asked) c.bind-handle.ensures.whole in
    omega arith

pub count_in-requires-clause-taken : goal.count_in-requires-clause-taken
count_in-requires-clause-taken c =
    let l = taken_room (sliced_seen c.args.self.now) c.requires in
    let e = ap (λ (x : OpenHeap). x.taken) c.bind-handle.ensures.whole in
    omega arith

pub returns-in_default-take_slot-clause-steps : goal.returns-in_default-take_slot-clause-steps
returns-in_default-take_slot-clause-steps c =
    lacks_takes (sliced_seen c.args.self.now) c.requires c.args.bytes c.in-Some.c c.in-Some.ensures.found (λ e. c.if-live-self.false (c.live.ensures.count ∙ e))
    (within_of c.is_over.result _ _ c.is_over.ensures c.if-is_over.false) _ c.in_default-take_slot.ensures.taken
    c.args.steps.now c.class_of.new.steps c.take_slot.new.steps c.class_of.ensures.steps c.take_slot.ensures.steps

pub returns : goal.returns
returns c =
    let h = sliced_seen c.args.self.now in let found = c.in-Some.ensures.found in let b = c.bind-handle.ensures in
    let given = given_from h c.requires c.args.bytes c.in-Some.c found (λ e. c.if-live-self.false (c.live.ensures.count ∙ e))
    (within_of c.is_over.result _ _ c.is_over.ensures c.if-is_over.false)
    (seen_with c.args.self.now c.take_slot.new.self c.take_slot.new.lists) (sliced_seen c.bind-handle.new.self) (sliced_seen c.count_in.new.self)
    c.in-Some-take_slot.place c.bind-handle.result.0 c.in-Some-take_slot.ensures.taken c.take_slot.ensures.kept
    (only_tables c.args.self.now c.take_slot.new.self c.take_slot.new.lists c.take_slot.ensures.classes)
    b.unused b.below (ap sliced_seen b.whole) b.handles b.first (ap sliced_seen c.count_in.ensures) in
    record {
      step = given.0.mallocs;
      ordered = given.0;
      kept = given.1;
      plan = search rules;
      steps = malloc_takes h c.requires c.args.bytes c.in-Some.c found (λ e. c.if-live-self.false (c.live.ensures.count ∙ e))
          (within_of c.is_over.result _ _ c.is_over.ensures c.if-is_over.false) _
          c.in-Some-take_slot.place c.in-Some-take_slot.ensures.taken c.take_slot.ensures.kept c.bind-handle.result
          c.args.steps.now c.class_of.new.steps c.take_slot.new.steps c.bind-handle.new.steps c.class_of.ensures.steps c.take_slot.ensures.steps b.steps;
    }
