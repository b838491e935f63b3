-- The class, the proxy and the slot are found; then the object is made.
use Rattle.std.proofs.Common.{get_or, arith, ap, rules}
use Rattle.paged_heap.specs.declared.open_heap.OpenHeap.{OpenHeap}
use Rattle.paged_heap.specs.Heap.{Heap, seen}
use Rattle.paged_heap.proofs.ByKind.{in_region, laid_same}
use Rattle.paged_heap.proofs.CostLemmas.{malloc_sum}
use Rattle.paged_heap.proofs.CountLimits.{asked_room, live_room, taken_room}
use Rattle.paged_heap.specs.Layout.{paging_at}
use Rattle.paged_heap.proofs.LayoutFacts.{retabled, with_tables, table_is, paging_ok}
use Rattle.paged_heap.proofs.MallocPreserves.{comes_chosen, comes_given, comes_kept}
use Rattle.paged_heap.proofs.MallocLemmas.{comes, place_inside}
use Rattle.page_slots.proofs.CallerLemmas.{class_is, as_many}
use Rattle.paged_heap.proofs.open_heap.OpenHeap.malloc_inner.Goals as goal

pub take_slot-requires-clause-class : goal.take_slot-requires-clause-class
take_slot-requires-clause-class g c =
    let h = seen g.A.Mapping.kind c.args.self.now in
    let is = class_is (paging_ok h c.requires.kept) (table_is h c.requires.kept) c.args.bytes c.in_ok-c.c c.in_ok-c.ensures.class in let lt = is.2 in
    let many = as_many (paging_at h) (table_is h c.requires.kept) in
    omega arith

pub bind-handle-requires-clause-within : goal.bind-handle-requires-clause-within
bind-handle-requires-clause-within g c =
    let lt = place_inside (seen g.A.Mapping.kind c.args.self.now) c.requires.kept c.args.bytes c.in_ok-c.c c.in_ok-c.ensures.class _
    c.in-Some.place c.in-Some.ensures.taken c.in-Some.ensures.kept in
    let l = in_region g.A.Mapping.kind c.args.self.now c.requires.laid in
    omega arith

pub count_in-requires-clause-live : goal.count_in-requires-clause-live
count_in-requires-clause-live g c =
    let is = class_is (paging_ok (seen g.A.Mapping.kind c.args.self.now) c.requires.kept) (table_is (seen g.A.Mapping.kind c.args.self.now) c.requires.kept)
    c.args.bytes c.in_ok-c.c c.in_ok-c.ensures.class in
    let l = live_room (seen g.A.Mapping.kind c.args.self.now) c.requires.kept c.in_ok-c.c is.2 in
    let e = ap (λ (x : Heap). get_or x.live c.in_ok-c.c 0) c.bind-handle.ensures.whole in
    omega arith

pub count_in-requires-clause-asked : goal.count_in-requires-clause-asked
count_in-requires-clause-asked g c =
    let l = asked_room (seen g.A.Mapping.kind c.args.self.now) c.requires.kept in
    let e = ap (λ (x : Heap). x.asked) c.bind-handle.ensures.whole in
    omega arith

pub count_in-requires-clause-taken : goal.count_in-requires-clause-taken
count_in-requires-clause-taken g c =
    let l = taken_room (seen g.A.Mapping.kind c.args.self.now) c.requires.kept in
    let e = ap (λ (x : Heap). x.taken) c.bind-handle.ensures.whole in
    omega arith

pub returns : goal.returns
returns g c =
    let kind = g.A.Mapping.kind in
    let h = seen kind c.args.self.now in let n = seen kind c.count_in.new.self in let b = c.bind-handle.ensures in
    let co = comes h c.requires.kept c.args.bytes c.in_ok-c.c c.in_ok-c.ensures.class (seen kind (with_tables c.args.self.now c.take_slot.new.self c.take_slot.new.lists))
    (seen kind c.bind-handle.new.self) n c.in-Some.place c.bind-handle.result.0
    c.in_ok-c.ensures.few c.in-Some.ensures.taken c.in-Some.ensures.kept
    (retabled kind c.args.self.now c.take_slot.new.self c.take_slot.new.lists c.in-Some.ensures.classes)
    b.unused b.below b.first b.whole b.handles (ap (seen kind) c.count_in.ensures) in
    record {
      step = comes_given h n c.requires.kept c.in_ok-c.c c.in-Some.place c.args.bytes c.bind-handle.result.0 co;
      kept = record {
        laid = laid_same kind c.bind-handle.new.self c.count_in.new.self (ap (λ (x : OpenHeap). x.blocks) c.count_in.ensures)
            (ap (λ (x : OpenHeap). x.region) c.count_in.ensures) b.laid;
        kept = comes_kept h n c.requires.kept c.in_ok-c.c c.in-Some.place c.args.bytes c.bind-handle.result.0 co;
      };
      steps = search rules;
      choice = comes_chosen h n c.requires.kept c.in_ok-c.c c.in-Some.place c.args.bytes c.bind-handle.result.0 co;
      cost = malloc_sum h c.requires.kept c.args.bytes c.in_ok-c.c c.in_ok-c.ensures.class c.bind-handle.result _ _
          c.in-Some.ensures.taken _ _ _ _ c.in_ok-c.ensures.steps c.in-Some.ensures.steps b.steps;
    }
