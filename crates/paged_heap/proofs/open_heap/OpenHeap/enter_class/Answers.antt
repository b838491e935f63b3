-- A slot is taken, and the object is copied there.
use Rattle.std.proofs.Common.{◌-◌, ◌+◌, get_or, arith, refl, ap}
use Rattle.std.proofs.lemmas.List.{get_or-set_other}
use Rattle.size_classes.specs.Table.{ClassTable}
use Rattle.paged_heap.specs.declared.open_heap.OpenHeap.{OpenHeap}
use Rattle.paged_heap.specs.ResizeClass.{kept_words}
use Rattle.paged_heap.specs.Heap.{Heap, seen}
use Rattle.paged_heap.proofs.ByKind.{in_region, in_step}
use Rattle.paged_heap.specs.Layout.{paging_at}
use Rattle.paged_heap.proofs.LayoutFacts.{retabled, tables_ok, with_tables, owns, table_is}
use Rattle.paged_heap.proofs.MallocLemmas.{lacks_slots}
use Rattle.paged_heap.proofs.ResizeInPlace.{holds_bytes}
use Rattle.paged_heap.proofs.ResizeEnter.{entered, is_free, new_holds, new_whole, slots_apart, target, words_apart}
use Rattle.paged_heap.proofs.FreedObject.{asked_some, live_some, taken_some}
use Rattle.paged_heap.proofs.CountLimits.{asked_room, live_room, taken_room}
use Rattle.paged_heap.proofs.ResizeCosts.{entering_sum}
use Rattle.paged_heap.proofs.StepLemmas.{copy_along, tail_few}
use Rattle.paged_heap.proofs.WholeBlocks.{whole_slot}
use Rattle.page_slots.proofs.CallerLemmas.{it, it_found, it_inside, as_many}
use Rattle.paged_heap.proofs.open_heap.OpenHeap.enter_class.Goals as goal

pub has_slot-requires : goal.has_slot-requires
has_slot-requires g c =
    let h = seen g.A.Mapping.kind c.args.self.now in let k = c.requires.kept.kept in
    let lt = c.requires.change.in_range in let many = as_many (paging_at h) (table_is h k) in
    let all = (tables_ok h k).classes in
    omega arith

pub returns-then-not-has_slot-clause-entered : goal.returns-then-not-has_slot-clause-entered
returns-then-not-has_slot-clause-entered g c =
    let h = seen g.A.Mapping.kind c.args.self.now in
    record { lacking = lacks_slots h c.requires.kept.kept c.args.x.to (c.has_slot.ensures.none c.if-not-has_slot.true); tables = refl; rest = refl }

pub copy_to_slot-requires-clause-source : goal.copy_to_slot-requires-clause-source
copy_to_slot-requires-clause-source g c =
    let kind = g.A.Mapping.kind in let h = seen kind c.args.self.now in let k = c.requires.kept.kept in let x = c.args.x in let is = c.requires.change in
    let i = it_inside (owns k) is.object in
    let l = in_region kind c.args.self.now c.requires.kept.laid in
    let o = holds_bytes k is.object in
    omega arith

pub copy_to_slot-requires-clause-target : goal.copy_to_slot-requires-clause-target
copy_to_slot-requires-clause-target g c =
    let kind = g.A.Mapping.kind in let h = seen kind c.args.self.now in let k = c.requires.kept.kept in let x = c.args.x in let is = c.requires.change in
    let free = is_free k is c.in-Some.ensures.taken c.in-Some.ensures.kept in
    let t = target k is free in
    let l = in_region kind c.args.self.now c.requires.kept.laid in
    omega arith

pub copy_to_slot-requires-clause-apart : goal.copy_to_slot-requires-clause-apart
copy_to_slot-requires-clause-apart g c =
    let kind = g.A.Mapping.kind in let h = seen kind c.args.self.now in let k = c.requires.kept.kept in let x = c.args.x in let is = c.requires.change in
    let free = is_free k is c.in-Some.ensures.taken c.in-Some.ensures.kept in
    let o = holds_bytes k is.object in
    let r = new_holds k is free in
    words_apart c.args.x.place c.in-Some.to _ _ (kept_words x) (slots_apart k is free) (omega arith) (omega arith)

pub copy_to_slot-requires-clause-in_step : goal.copy_to_slot-requires-clause-in_step
copy_to_slot-requires-clause-in_step g c =
    let kind = g.A.Mapping.kind in let h = seen kind c.args.self.now in let k = c.requires.kept.kept in let x = c.args.x in let is = c.requires.change in
    let free = is_free k is c.in-Some.ensures.taken c.in-Some.ensures.kept in
    in_step kind x.place c.in-Some.to (whole_slot h k x.handle.0 (it (owns k) is.object) (it_found (owns k) is.object)).0 (new_whole k is free)

pub count_out-requires-clause-live : goal.count_out-requires-clause-live
count_out-requires-clause-live g c =
    let kind = g.A.Mapping.kind in let h = seen kind c.args.self.now in let k = c.requires.kept.kept in let x = c.args.x in let is = c.requires.change in
    let l = live_some k is.object in
    let e = ap (λ (x : Heap). get_or x.live c.args.x.class 0) c.copy_to_slot.ensures.rest in
    omega arith

pub count_out-requires-clause-asked : goal.count_out-requires-clause-asked
count_out-requires-clause-asked g c =
    let kind = g.A.Mapping.kind in let h = seen kind c.args.self.now in let k = c.requires.kept.kept in let x = c.args.x in let is = c.requires.change in
    let l = asked_some k is.object in
    let e = ap (λ (x : Heap). x.asked) c.copy_to_slot.ensures.rest in
    omega arith

pub count_out-requires-clause-taken : goal.count_out-requires-clause-taken
count_out-requires-clause-taken g c =
    let kind = g.A.Mapping.kind in let h = seen kind c.args.self.now in let k = c.requires.kept.kept in let x = c.args.x in let is = c.requires.change in
    let l = taken_some k is.object in
    let e = ap (λ (x : Heap). x.taken) c.copy_to_slot.ensures.rest in
    let o = ap (λ (x : Heap). get_or x.classes.sizes c.args.x.class 0) c.copy_to_slot.ensures.rest in
    let i = ap (λ (t : ClassTable). get_or t.sizes c.args.x.class 0) c.in-Some.ensures.classes in
    omega arith

pub count_in-requires-clause-live : goal.count_in-requires-clause-live
count_in-requires-clause-live g c =
    let kind = g.A.Mapping.kind in let h = seen kind c.args.self.now in let k = c.requires.kept.kept in let x = c.args.x in let is = c.requires.change in
    let l = live_room h k c.args.x.to is.in_range in
    let d = ap (λ (x : OpenHeap). get_or x.live c.args.x.to 0) c.count_out.ensures in
    let o = get_or-set_other c.copy_to_slot.new.self.live c.args.x.class c.args.x.to (get_or c.copy_to_slot.new.self.live c.args.x.class 0 - 1) 0 is.other in
    let e = ap (λ (x : Heap). get_or x.live c.args.x.to 0) c.copy_to_slot.ensures.rest in
    omega arith

pub count_in-requires-clause-asked : goal.count_in-requires-clause-asked
count_in-requires-clause-asked g c =
    let kind = g.A.Mapping.kind in let h = seen kind c.args.self.now in let k = c.requires.kept.kept in let x = c.args.x in let is = c.requires.change in
    let l = asked_room h k in
    let d = ap (λ (x : OpenHeap). x.asked) c.count_out.ensures in
    let e = ap (λ (x : Heap). x.asked) c.copy_to_slot.ensures.rest in
    omega arith

pub count_in-requires-clause-taken : goal.count_in-requires-clause-taken
count_in-requires-clause-taken g c =
    let kind = g.A.Mapping.kind in let h = seen kind c.args.self.now in let k = c.requires.kept.kept in let x = c.args.x in let is = c.requires.change in
    let l = taken_room h k in
    let d = ap (λ (x : OpenHeap). x.taken) c.count_out.ensures in
    let e = ap (λ (x : Heap). x.taken) c.copy_to_slot.ensures.rest in
    omega arith

pub returns-clause-entered : goal.returns-clause-entered
returns-clause-entered g c =
    let kind = g.A.Mapping.kind in let h = seen kind c.args.self.now in let k = c.requires.kept.kept in let x = c.args.x in let is = c.requires.change in
    entered h x is c.in-Some.to (seen kind (with_tables c.args.self.now c.take_slot.new.self c.take_slot.new.lists)) (seen kind c.copy_to_slot.new.self) (seen kind c.count_out.new.self)
    (seen kind c.count_in.new.self)
    c.in-Some.ensures.taken c.in-Some.ensures.kept (retabled kind c.args.self.now c.take_slot.new.self c.take_slot.new.lists c.in-Some.ensures.classes) c.copy_to_slot.ensures.rest
    c.copy_to_slot.ensures.free c.copy_to_slot.ensures.words c.copy_to_slot.ensures.handles (ap (seen kind) c.count_out.ensures) (ap (seen kind) c.count_in.ensures)

pub returns-clause-steps : goal.returns-clause-steps
returns-clause-steps g c =
    let kind = g.A.Mapping.kind in let h = seen kind c.args.self.now in let k = c.requires.kept.kept in let x = c.args.x in let is = c.requires.change in
    let along = copy_along kind x.place 1 (x.place + 1) (kept_words x) (whole_slot h k x.handle.0 (it (owns k) is.object) (it_found (owns k) is.object)).0
    (omega arith) in
    let few = tail_few kind c.in-Some.to x.bytes (kept_words x) (omega arith) in
    let a = c.in-Some.ensures.bound in let b = c.copy_to_slot.ensures.steps in
    let ak = a.kept in let ab = a.bound in let bk = b.kept in let bb = b.bound in
    record { kept = omega arith; bound = omega arith }

pub returns-clause-cost : goal.returns-clause-cost
returns-clause-cost g c = λ some. (
    let kind = g.A.Mapping.kind in let h = seen kind c.args.self.now in let k = c.requires.kept.kept in let is = c.requires.change in
    entering_sum k is c.in-Some.to _ c.in-Some.ensures.taken (new_whole k is (is_free k is c.in-Some.ensures.taken c.in-Some.ensures.kept))
    _ _ _ c.in-Some.ensures.steps c.copy_to_slot.ensures.steps)
