-- The refusals, in the order in which the code tests their causes.
use Rattle.std.proofs.Common.{arith, sym, ◌∙◌}
use Rattle.std.proofs.lemmas.Bool.{true≢false}
use Rattle.paged_heap.specs.Heap.{seen}
use Rattle.paged_heap.specs.Layout.{paging_at}
use Rattle.paged_heap.proofs.LayoutFacts.{tables_ok, table_is, paging_ok}
use Rattle.paged_heap.proofs.MallocLemmas.{lacks_proxy, lacks_space}
use Rattle.page_slots.proofs.CallerLemmas.{class_is, as_many}
use Rattle.paged_heap.proofs.open_heap.OpenHeap.class_with_room.Goals as goal

pub has_slot-requires : goal.has_slot-requires
has_slot-requires g c =
    let h = seen g.A.Mapping.kind c.args.self.now in
    let is = class_is (paging_ok h c.requires.kept) (table_is h c.requires.kept) c.args.bytes c.in-Some.c c.in-Some.ensures.found in let lt = is.2 in
    let many = as_many (paging_at h) (table_is h c.requires.kept) in
    let all = (tables_ok h c.requires.kept).classes in
    omega arith

pub returns-then-is_full-clause-cause : goal.returns-then-is_full-clause-cause
returns-then-is_full-clause-cause g c =
    lacks_proxy (seen g.A.Mapping.kind c.args.self.now) c.requires.kept c.args.bytes c.in-Some.c c.in-Some.ensures.found
    (c.is_full.ensures.value.0 c.if-is_full.true ∙ c.requires.kept.numbers)

pub returns-else-has_slot-clause-cause : goal.returns-else-has_slot-clause-cause
returns-else-has_slot-clause-cause g c =
    lacks_space (seen g.A.Mapping.kind c.args.self.now) c.requires.kept c.args.bytes c.in-Some.c c.in-Some.ensures.found
    (λ e. true≢false (sym (c.is_full.ensures.value.1 (e ∙ sym c.requires.kept.numbers)) ∙ c.if-is_full.false)) (c.has_slot.ensures.none c.if-has_slot.false)
