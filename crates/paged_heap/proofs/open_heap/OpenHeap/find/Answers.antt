use Rattle.std.proofs.Common.{arith, sym}
use Rattle.paged_heap.specs.Heap.{seen}
use Rattle.paged_heap.proofs.LayoutFacts.{owns}
use Rattle.paged_heap.proofs.ByKind.{in_region}
use Rattle.paged_heap.proofs.ReadLemmas.{passes}
use Rattle.page_model.proofs.CallerLemmas.{bytes_long}
use Rattle.step_ledger.proofs.CallerLemmas.{rose_both}
use Rattle.paged_heap.proofs.open_heap.OpenHeap.find.Goals as goal
use Rattle.paged_heap.proofs.open_heap.OpenHeap.find.Goals.{then-length-count-via-then-length-count}
use Rattle.paged_heap.proofs.open_heap.OpenHeap.find.Goals.{then-length-count-via-else-length-count+then-length-count-2}
use Rattle.page_slots.proofs.CallerLemmas.{no_place, place_in}
use Rattle.paged_heap.specs.Layout.{owner_in}

pub returns-in_default-clause-found : goal.returns-in_default-clause-found
returns-in_default-clause-found g c = no_place (owner_in (seen g.A.Mapping.kind c.args.self.now)) c.args.h.0 (sym c.in_default.ensures.found)

pub length_at-length-requires-clause-within : goal.length_at-length-requires-clause-within
length_at-length-requires-clause-within g c =
    let l = place_in (owns c.requires.kept) c.args.h.0 c.in-Some.place (sym c.in-Some.ensures.found) in
    let e = in_region g.A.Mapping.kind c.args.self.now c.requires.laid in
    omega arith

pub returns-then-length-count-clause-found : goal.returns-then-length-count-clause-found
returns-then-length-count-clause-found g c =
    let h = seen g.A.Mapping.kind c.args.self.now in
    let long = bytes_long h.words c.in-Some.place in
    let e = c.length_at-length.ensures.value in
    passes h c.requires.kept c.args.h.0 c.in-Some.place (sym c.in-Some.ensures.found) c.args.at c.args.count
    (elim c.then-length-count.branch [
      | then-length-count-via-then-length-count w ↦ (let lt = w.if-length-count.true in omega arith)
      | then-length-count-via-else-length-count+then-length-count-2 w ↦ (let le = w.if-length-count.false in let lt = w.if-length-count-2.true in omega arith)
    ])

pub returns-clause-found : goal.returns-clause-found
returns-clause-found g c =
    let h = seen g.A.Mapping.kind c.args.self.now in
    let long = bytes_long h.words c.in-Some.place in
    let e = c.length_at-length.ensures.value in
    let a = c.if-length-count.false in let b = c.if-length-count-2.false in
    record { found = sym c.in-Some.ensures.found; within = omega arith }

pub returns-then-length-count-clause-steps : goal.returns-then-length-count-clause-steps
returns-then-length-count-clause-steps g c = rose_both _ _ _ _ _ c.in-Some.ensures.steps c.length_at-length.ensures.steps

pub returns-clause-steps : goal.returns-clause-steps
returns-clause-steps g c = rose_both _ _ _ _ _ c.in-Some.ensures.steps c.length_at-length.ensures.steps
