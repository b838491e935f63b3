use Rattle.std.proofs.Common.{length, Some, arith, sym, ◌∙◌, ap}
use Rattle.std.specs.Prelude.{option_map}
use Rattle.page_model.specs.Held.{Placed}
use Rattle.page_model.proofs.CallerLemmas.{bytes_long}
use Rattle.step_ledger.proofs.CallerLemmas.{rose_both}
use Rattle.paged_heap.specs.Heap.{seen}
use Rattle.paged_heap.proofs.ByKind.{in_region}
use Rattle.paged_heap.proofs.LayoutFacts.{owns}
use Rattle.page_slots.proofs.CallerLemmas.{held, no_place, place_in}
use Rattle.paged_heap.specs.Layout.{owner_in}
use Rattle.paged_heap.proofs.open_heap.OpenHeap.length.Goals as goal

pub returns-in_default-clause-value : goal.returns-in_default-clause-value
returns-in_default-clause-value g c =
    sym (ap (option_map (λ (x : Placed). length x.bytes))
    (no_place (owner_in (seen g.A.Mapping.kind c.args.self.now)) c.args.h.0 (sym c.in_default.ensures.found)))

pub length_at-requires-clause-within : goal.length_at-requires-clause-within
length_at-requires-clause-within g c =
    let l = place_in (owns c.requires.kept) c.args.h.0 c.in-Some.place (sym c.in-Some.ensures.found) in
    let e = in_region g.A.Mapping.kind c.args.self.now c.requires.laid in
    omega arith

pub returns-clause-value : goal.returns-clause-value
returns-clause-value g c =
    let h = seen g.A.Mapping.kind c.args.self.now in
    ap Some (c.length_at.ensures.value ∙ sym (bytes_long h.words c.in-Some.place))
    ∙ sym (ap (option_map (λ (x : Placed). length x.bytes)) (held (owns c.requires.kept) c.args.h.0 c.in-Some.place (sym c.in-Some.ensures.found)))

pub returns-clause-steps : goal.returns-clause-steps
returns-clause-steps g c = rose_both _ _ _ _ _ c.in-Some.ensures.steps c.length_at.ensures.steps
