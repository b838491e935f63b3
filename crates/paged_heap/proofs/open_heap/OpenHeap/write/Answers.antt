use Rattle.std.proofs.Common.{length, arith, refl, subst}
use Rattle.step_ledger.specs.Counting.{RoseBy}
use Rattle.step_ledger.proofs.CallerLemmas.{rose_both}
use Rattle.virtual_words.specs.Words.{words_of}
use Rattle.paged_heap.specs.Heap.{Heap, seen}
use Rattle.paged_heap.proofs.ByKind.{in_region}
use Rattle.paged_heap.proofs.ReadLemmas.{place_small}
use Rattle.paged_heap.proofs.StepLemmas.{empty_steps, touched_steps}
use Rattle.paged_heap.proofs.WholeBlocks.{whole_slot}
use Rattle.paged_heap.proofs.WriteLemmas.{wrote, wrote_kept, wrote_nothing}
use Rattle.page_slots.proofs.CallerLemmas.{held, words_in}
use Rattle.page_slots.specs.Owner.{placed_at}
use Rattle.paged_heap.proofs.LayoutFacts.{owns}
use Rattle.paged_heap.specs.Layout.{owner_in}
use Rattle.paged_heap.proofs.open_heap.OpenHeap.write.Goals as goal

pub returns-then-len-eq0-clause-step : goal.returns-then-len-eq0-clause-step
returns-then-len-eq0-clause-step g c =
    wrote_nothing (seen g.A.Mapping.kind c.args.self.now) c.requires.kept c.args.h.0 c.args.at c.in_ok-place.place c.args.bytes.now c.if-len-eq0.true
    c.in_ok-place.ensures.found

pub overflow_add-first : goal.overflow_add-first
overflow_add-first g c =
    (let s = place_small (seen g.A.Mapping.kind c.args.self.now) c.requires.kept c.args.h.0 c.args.at _ c.in_ok-place.place c.in_ok-place.ensures.found
    (let ne = c.if-len-eq0.false in omega arith) in omega arith)

pub overflow_add-first-2 : goal.overflow_add-first-2
overflow_add-first-2 g c =
    (let s = place_small (seen g.A.Mapping.kind c.args.self.now) c.requires.kept c.args.h.0 c.args.at _ c.in_ok-place.place c.in_ok-place.ensures.found
    (let ne = c.if-len-eq0.false in omega arith) in omega arith)

pub write_bytes-requires-clause-within : goal.write_bytes-requires-clause-within
write_bytes-requires-clause-within g c =
    let w = words_in (owns c.requires.kept) c.args.h.0 c.args.at _ c.in_ok-place.place c.in_ok-place.ensures.found
    (let ne = c.if-len-eq0.false in omega arith) in
    let e = in_region g.A.Mapping.kind c.args.self.now c.requires.laid in
    omega arith

pub returns-clause-step : goal.returns-clause-step
returns-clause-step g c =
    let h = seen g.A.Mapping.kind c.args.self.now in
    let n : Heap = record h { words = words_of g.A.Mapping.kind c.args.self.now.blocks c.write_bytes.new.region } in
    wrote h n c.requires.kept c.args.h.0 c.args.at c.in_ok-place.place c.args.bytes.now c.in_ok-place.ensures.found
    (λ i. (let f = c.type_inv.bytes i in omega arith)) refl c.write_bytes.ensures.words

pub returns-clause-kept : goal.returns-clause-kept
returns-clause-kept g c =
    let h = seen g.A.Mapping.kind c.args.self.now in
    let n : Heap = record h { words = words_of g.A.Mapping.kind c.args.self.now.blocks c.write_bytes.new.region } in
    record {
      laid = c.write_bytes.ensures.laid;
      kept = wrote_kept h n c.requires.kept c.args.h.0 c.args.at c.in_ok-place.place c.args.bytes.now c.in_ok-place.ensures.found
          (λ i. (let f = c.type_inv.bytes i in omega arith)) refl c.write_bytes.ensures.words;
    }

pub returns-then-len-eq0-clause-steps : goal.returns-then-len-eq0-clause-steps
returns-then-len-eq0-clause-steps g c =
    subst (RoseBy _ _) (empty_steps g.A.Mapping.kind c.args.at (length c.args.bytes.now) c.if-len-eq0.true) c.in_ok-place.ensures.steps

pub returns-clause-steps : goal.returns-clause-steps
returns-clause-steps g c =
    let kind = g.A.Mapping.kind in let h = seen kind c.args.self.now in
    let whole = (whole_slot h c.requires.kept c.args.h.0 (placed_at (owner_in h) c.in_ok-place.place)
    (held (owns c.requires.kept) c.args.h.0 c.in_ok-place.place c.in_ok-place.ensures.found.found)).0 in
    subst (RoseBy _ _) (touched_steps kind c.in_ok-place.place c.args.at (length c.args.bytes.now) whole c.if-len-eq0.false)
    (rose_both _ _ _ _ _ c.in_ok-place.ensures.steps c.write_bytes.ensures.steps)
