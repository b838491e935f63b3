-- The header holds the object's length.
use Rattle.std.proofs.Common.{refl, sym, arith}
use Rattle.paged_heap.specs.Heap.{seen}
use Rattle.paged_heap.proofs.LayoutFacts.{owns}
use Rattle.paged_heap.proofs.ByKind.{in_region}
use Rattle.paged_heap.proofs.CostLemmas.{free_sum}
use Rattle.page_slots.proofs.CallerLemmas.{no_place, place_in, has_class, object_at, page_there}
use Rattle.paged_heap.specs.Layout.{owner_in}
use Rattle.paged_heap.proofs.open_heap.OpenHeap.free_inner.Goals as goal

pub returns-in_default-clause-step : goal.returns-in_default-clause-step
returns-in_default-clause-step g c = (no_place (owner_in (seen g.A.Mapping.kind c.args.self.now)) c.args.h.0 (sym c.in_default.ensures.found), refl)

pub length_at-length-requires-clause-within : goal.length_at-length-requires-clause-within
length_at-length-requires-clause-within g c =
    let l = place_in (owns c.requires.kept) c.args.h.0 c.in-Some.place (sym c.in-Some.ensures.found) in
    let e = in_region g.A.Mapping.kind c.args.self.now c.requires.laid in
    omega arith

pub unreachable-requires : goal.unreachable-requires
unreachable-requires g c =
    has_class (owns c.requires.kept) c.args.h.0 c.in-Some.place (sym c.in-Some.ensures.found) c.length_at-length.result
    c.length_at-length.ensures.value c.in_default-class_of.ensures.found

pub must_move-moves-requires-clause-page : goal.must_move-moves-requires-clause-page
must_move-moves-requires-clause-page g c =
    page_there (owns c.requires.kept)
    (object_at (owns c.requires.kept) c.args.h.0 c.in-Some.place (sym c.in-Some.ensures.found)
    c.length_at-length.result c.length_at-length.ensures.value c.in-Some-class_of.c c.in-Some-class_of.ensures.found)

pub free_object-requires-clause-object : goal.free_object-requires-clause-object
free_object-requires-clause-object g c =
    object_at (owns c.requires.kept) c.args.h.0 c.in-Some.place (sym c.in-Some.ensures.found) c.length_at-length.result
    c.length_at-length.ensures.value c.in-Some-class_of.c c.in-Some-class_of.ensures.found

pub returns-clause-cost : goal.returns-clause-cost
returns-clause-cost g c =
    let h = seen g.A.Mapping.kind c.args.self.now in let k = c.requires.kept in
    let o = object_at (owns k) c.args.h.0 c.in-Some.place (sym c.in-Some.ensures.found) c.length_at-length.result c.length_at-length.ensures.value
    c.in-Some-class_of.c c.in-Some-class_of.ensures.found in
    free_sum k o c.free_object.result _ _ _ _ _ _ c.in-Some.ensures.steps c.length_at-length.ensures.steps c.in-Some-class_of.ensures.steps
    c.must_move-moves.ensures.steps c.free_object.ensures.cost
