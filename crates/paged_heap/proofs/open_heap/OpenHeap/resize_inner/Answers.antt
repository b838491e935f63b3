-- Each refusal comes before any change of the heap.
use Rattle.std.proofs.Common.{arith, refl, sym, ◌∙◌}
use Rattle.paged_heap.specs.Heap.{seen}
use Rattle.paged_heap.specs.Layout.{state_of, owner_in}
use Rattle.paged_heap.proofs.LayoutFacts.{owns, table_is, paging_ok}
use Rattle.paged_heap.proofs.ByKind.{in_region, unmoved}
use Rattle.paged_heap.proofs.LayoutFacts.{paged_kind}
use Rattle.step_ledger.proofs.CallerLemmas.{rose_both}
use Rattle.paged_heap.proofs.ResizeCosts.{change_sum, stay_sum}
use Rattle.paged_heap.proofs.ResizeLemmas.{change_at, changed_steps, passes_page, stayed_steps}
use Rattle.page_slots.proofs.CallerLemmas.{class_is, no_place, place_in, has_class, object_at}
use Rattle.paged_heap.proofs.open_heap.OpenHeap.resize_inner.Goals as goal

pub returns-in_default-clause-step : goal.returns-in_default-clause-step
returns-in_default-clause-step g c =
    let h = seen g.A.Mapping.kind c.args.self.now in let k = c.requires.kept in
    (no_place (owner_in h) c.args.h.0 (sym c.in_default.ensures.found), unmoved g.A.Mapping.kind (paged_kind h k) (state_of h) (state_of h) refl)

pub returns-in_default-class_of-clause-step : goal.returns-in_default-class_of-clause-step
returns-in_default-class_of-clause-step g c =
    let h = seen g.A.Mapping.kind c.args.self.now in let k = c.requires.kept in (
      passes_page h k c.args.h.0 c.in-Some.place c.args.bytes (sym c.in-Some.ensures.found) c.in_default-class_of.ensures.found,
      unmoved g.A.Mapping.kind
          (paged_kind h k) (state_of h) (state_of h) refl,
    )

pub length_at-length-requires-clause-within : goal.length_at-length-requires-clause-within
length_at-length-requires-clause-within g c =
    let h = seen g.A.Mapping.kind c.args.self.now in let k = c.requires.kept in
    let l = place_in (owns k) c.args.h.0 c.in-Some.place (sym c.in-Some.ensures.found) in
    let e = in_region g.A.Mapping.kind c.args.self.now c.requires.laid in
    omega arith

pub unreachable-requires : goal.unreachable-requires
unreachable-requires g c =
    let h = seen g.A.Mapping.kind c.args.self.now in let k = c.requires.kept in
    has_class (owns k) c.args.h.0 c.in-Some.place (sym c.in-Some.ensures.found) c.length_at-length.result c.length_at-length.ensures.value
    c.in_default-class_of-2.ensures.found

pub resize_in_place-requires-clause-object : goal.resize_in_place-requires-clause-object
resize_in_place-requires-clause-object g c =
    let h = seen g.A.Mapping.kind c.args.self.now in let k = c.requires.kept in
    object_at (owns k) c.args.h.0 c.in-Some.place (sym c.in-Some.ensures.found) c.length_at-length.result c.length_at-length.ensures.value
    c.in-Some-class_of-2.class c.in-Some-class_of-2.ensures.found

pub resize_in_place-requires-clause-same : goal.resize_in_place-requires-clause-same
resize_in_place-requires-clause-same g c =
    let h = seen g.A.Mapping.kind c.args.self.now in let k = c.requires.kept in
    (class_is (paging_ok h k) (table_is h k) c.args.bytes c.in-Some-class_of.to c.in-Some-class_of.ensures.found).1 ∙ c.if-to-class.true

pub resize_to_class-requires-clause-change : goal.resize_to_class-requires-clause-change
resize_to_class-requires-clause-change g c =
    let h = seen g.A.Mapping.kind c.args.self.now in let k = c.requires.kept in
    change_at h k c.args.h c.in-Some.place c.length_at-length.result c.args.bytes c.in-Some-class_of-2.class c.in-Some-class_of.to
    (object_at (owns k) c.args.h.0 c.in-Some.place (sym c.in-Some.ensures.found) c.length_at-length.result c.length_at-length.ensures.value
    c.in-Some-class_of-2.class c.in-Some-class_of-2.ensures.found) c.in-Some-class_of.ensures.found c.if-to-class.false

pub returns-then-to-class-clause-steps : goal.returns-then-to-class-clause-steps
returns-then-to-class-clause-steps g c =
    let kind = g.A.Mapping.kind in let h = seen kind c.args.self.now in let k = c.requires.kept in
    let o = object_at (owns k) c.args.h.0 c.in-Some.place (sym c.in-Some.ensures.found) c.length_at-length.result c.length_at-length.ensures.value
    c.in-Some-class_of-2.class c.in-Some-class_of-2.ensures.found in
    stayed_steps h k o c.args.bytes c.resize_in_place.result c.resize_in_place.ensures.slot c.resize_in_place.ensures.old_slot _ _ _ _ _ _
    c.in-Some.ensures.steps c.in-Some-class_of.ensures.steps c.length_at-length.ensures.steps c.in-Some-class_of-2.ensures.steps
    c.resize_in_place.ensures.steps

pub returns-clause-steps : goal.returns-clause-steps
returns-clause-steps g c =
    let kind = g.A.Mapping.kind in let h = seen kind c.args.self.now in let k = c.requires.kept in
    let is = change_at h k c.args.h c.in-Some.place c.length_at-length.result c.args.bytes c.in-Some-class_of-2.class c.in-Some-class_of.to
    (object_at (owns k) c.args.h.0 c.in-Some.place (sym c.in-Some.ensures.found) c.length_at-length.result c.length_at-length.ensures.value
    c.in-Some-class_of-2.class c.in-Some-class_of-2.ensures.found) c.in-Some-class_of.ensures.found c.if-to-class.false in
    changed_steps h k is c.resize_to_class.result (seen kind c.resize_to_class.new.self) c.resize_to_class.ensures.step c.resize_to_class.ensures.cause _ _ _ _ _ _
    c.in-Some.ensures.steps c.in-Some-class_of.ensures.steps c.length_at-length.ensures.steps c.in-Some-class_of-2.ensures.steps
    c.resize_to_class.ensures.steps

pub returns-in_default-class_of-clause-cost : goal.returns-in_default-class_of-clause-cost
returns-in_default-class_of-clause-cost g c = rose_both _ _ _ _ _ c.in-Some.ensures.steps c.in_default-class_of.ensures.steps

pub returns-then-to-class-clause-cost : goal.returns-then-to-class-clause-cost
returns-then-to-class-clause-cost g c =
    let kind = g.A.Mapping.kind in let h = seen kind c.args.self.now in let k = c.requires.kept in
    let o = object_at (owns k) c.args.h.0 c.in-Some.place (sym c.in-Some.ensures.found) c.length_at-length.result c.length_at-length.ensures.value
    c.in-Some-class_of-2.class c.in-Some-class_of-2.ensures.found in
    stay_sum h k o c.args.bytes ((class_is (paging_ok h k) (table_is h k) c.args.bytes c.in-Some-class_of.to c.in-Some-class_of.ensures.found).1 ∙
    c.if-to-class.true)
    c.resize_in_place.result _ _ _ _ _ _
    c.in-Some.ensures.steps c.in-Some-class_of.ensures.steps c.length_at-length.ensures.steps c.in-Some-class_of-2.ensures.steps
    c.resize_in_place.ensures.steps

pub returns-clause-cost : goal.returns-clause-cost
returns-clause-cost g c =
    let kind = g.A.Mapping.kind in let h = seen kind c.args.self.now in let k = c.requires.kept in
    let is = change_at h k c.args.h c.in-Some.place c.length_at-length.result c.args.bytes c.in-Some-class_of-2.class c.in-Some-class_of.to
    (object_at (owns k) c.args.h.0 c.in-Some.place (sym c.in-Some.ensures.found) c.length_at-length.result c.length_at-length.ensures.value
    c.in-Some-class_of-2.class c.in-Some-class_of-2.ensures.found) c.in-Some-class_of.ensures.found c.if-to-class.false in
    change_sum k is c.resize_to_class.result c.resize_to_class.ensures.cause _ _ _ _ _ _
    c.in-Some.ensures.steps c.in-Some-class_of.ensures.steps c.length_at-length.ensures.steps c.in-Some-class_of-2.ensures.steps
    c.resize_to_class.ensures.cost
