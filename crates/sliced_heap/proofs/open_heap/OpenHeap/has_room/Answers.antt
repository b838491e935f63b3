use Rattle.std.proofs.Common.{arith, sym, ◌∙◌}
use Rattle.sliced_heap.specs.Heap.{sliced_seen}
use Rattle.sliced_heap.specs.Layout.{sliced_paging, sliced_tables_in}
use Rattle.sliced_heap.proofs.Facts.{paging_ok, table_is, tables_ok}
use Rattle.sliced_heap.proofs.MallocLemmas.{lacks_proxy, lacks_slot, lacks_space, no_slots, not_refused, within_of}
use Rattle.page_slots.proofs.CallerLemmas.{as_many, class_is}
use Rattle.sliced_heap.proofs.open_heap.OpenHeap.has_room.Goals as goal

pub has_slot-requires : goal.has_slot-requires
has_slot-requires c =
    let h = sliced_seen c.args.self.now in
    let is = class_is (paging_ok h c.requires) (table_is h c.requires) c.args.bytes c.in-Some.c c.in-Some.ensures.found in let lt = is.2 in
    let many = as_many (sliced_paging h) (table_is h c.requires) in
    let all = (tables_ok h c.requires).classes in
    omega arith

pub returns-then-live-self-clause-value : goal.returns-then-live-self-clause-value
returns-then-live-self-clause-value c =
    lacks_proxy (sliced_seen c.args.self.now) c.requires c.args.bytes c.in-Some.c c.in-Some.ensures.found (sym c.live.ensures.count ∙ c.if-live-self.true)

pub returns-then-is_over-clause-value : goal.returns-then-is_over-clause-value
returns-then-is_over-clause-value c =
    lacks_space (sliced_seen c.args.self.now) c.requires c.args.bytes c.in-Some.c c.in-Some.ensures.found (λ e. c.if-live-self.false (c.live.ensures.count ∙ e))
    (c.is_over.ensures.0 c.if-is_over.true)

pub returns-else-has_slot-clause-value : goal.returns-else-has_slot-clause-value
returns-else-has_slot-clause-value c =
    lacks_slot (sliced_seen c.args.self.now) c.requires c.args.bytes c.in-Some.c c.in-Some.ensures.found (λ e. c.if-live-self.false (c.live.ensures.count ∙ e))
    (within_of c.is_over.result _ _ c.is_over.ensures c.if-is_over.false) (sliced_tables_in (sliced_seen c.args.self.now))
    (no_slots (sliced_seen c.args.self.now) c.in-Some.c (c.has_slot.ensures.none c.if-has_slot.false))

pub returns-then-has_slot-clause-value : goal.returns-then-has_slot-clause-value
returns-then-has_slot-clause-value c =
    not_refused (sliced_seen c.args.self.now) c.requires c.args.bytes c.in-Some.c c.in-Some.ensures.found (λ e. c.if-live-self.false (c.live.ensures.count ∙ e))
    (within_of c.is_over.result _ _ c.is_over.ensures c.if-is_over.false) (c.has_slot.ensures.some c.if-has_slot.true)
