-- The header holds the object's length, and the slots of its class have the words of its slot.
use Rattle.std.proofs.Common.{Some, arith, sym, ◌∙◌, ap}
use Rattle.std.specs.Prelude.{option_map}
use Rattle.step_ledger.proofs.CallerLemmas.{rose_both}
use Rattle.cf_model.specs.Steps.{slot_in}
use Rattle.paged_heap.specs.Heap.{seen}
use Rattle.page_slots.proofs.CallerLemmas.{has_class, held, it, it_slot, no_place, object_at, place_in}
use Rattle.paged_heap.specs.Layout.{owner_in, state_of}
use Rattle.paged_heap.proofs.ByKind.{in_region, slot_in_is}
use Rattle.paged_heap.proofs.LayoutFacts.{owns, paged_kind}
use Rattle.paged_heap.proofs.open_heap.OpenHeap.slot_words.Goals as goal

pub returns-in_default-clause-value : goal.returns-in_default-clause-value
returns-in_default-clause-value g c =
    let h = seen g.A.Mapping.kind c.args.self.now in
    sym (ap (option_map (slot_in h.kind (state_of h))) (no_place (owner_in h) c.args.h.0 (sym c.in_default.ensures.found)))

pub length_at-length-requires-clause-within : goal.length_at-length-requires-clause-within
length_at-length-requires-clause-within g c =
    let l = place_in (owns c.requires.kept) c.args.h.0 c.in-Some.place (sym c.in-Some.ensures.found) in
    let e = in_region g.A.Mapping.kind c.args.self.now c.requires.laid in
    omega arith

pub unreachable-requires : goal.unreachable-requires
unreachable-requires g c =
    has_class (owns c.requires.kept) c.args.h.0 c.in-Some.place (sym c.in-Some.ensures.found) c.length_at-length.result
    c.length_at-length.ensures.value c.in_default-class_of.ensures.found

pub returns-clause-value : goal.returns-clause-value
returns-clause-value g c =
    let h = seen g.A.Mapping.kind c.args.self.now in let k = c.requires.kept in
    let o = object_at (owns k) c.args.h.0 c.in-Some.place (sym c.in-Some.ensures.found) c.length_at-length.result c.length_at-length.ensures.value
    c.in-Some-class_of.c c.in-Some-class_of.ensures.found in
    ap Some (c.slot_words.ensures.value ∙ it_slot (owns k) o ∙ sym (slot_in_is h.kind (paged_kind h k) (state_of h) (it (owns k) o)))
    ∙ sym (ap (option_map (slot_in h.kind (state_of h))) (held (owns k) c.args.h.0 c.in-Some.place (sym c.in-Some.ensures.found)))

pub returns-clause-steps : goal.returns-clause-steps
returns-clause-steps g c =
    rose_both _ _ _ _ _ (rose_both _ _ _ _ _ c.in-Some.ensures.steps c.length_at-length.ensures.steps) c.in-Some-class_of.ensures.steps
