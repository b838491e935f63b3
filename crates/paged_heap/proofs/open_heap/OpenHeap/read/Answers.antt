use Rattle.std.proofs.Common.{length, arith, refl, subst}
use Rattle.step_ledger.specs.Counting.{RoseBy}
use Rattle.step_ledger.proofs.CallerLemmas.{rose_both}
use Rattle.paged_heap.specs.Heap.{seen}
use Rattle.paged_heap.proofs.ByKind.{in_region}
use Rattle.paged_heap.proofs.ReadLemmas.{place_small, read_is}
use Rattle.paged_heap.proofs.StepLemmas.{empty_steps, touched_steps}
use Rattle.paged_heap.proofs.WholeBlocks.{whole_slot}
use Rattle.page_slots.proofs.CallerLemmas.{held, words_in}
use Rattle.page_slots.specs.Owner.{placed_at}
use Rattle.paged_heap.proofs.LayoutFacts.{owns}
use Rattle.paged_heap.specs.Layout.{owner_in}
use Rattle.paged_heap.proofs.open_heap.OpenHeap.read.Goals as goal

pub overflow_add-first-2 : goal.overflow_add-first-2
overflow_add-first-2 g c =
    (let s = place_small (seen g.A.Mapping.kind c.args.self.now) c.requires.kept c.args.h.0 c.args.at _ c.in_ok-place.place c.in_ok-place.ensures.found
    (let ne = c.if-len-eq0.false in omega arith) in omega arith)

pub overflow_add-first : goal.overflow_add-first
overflow_add-first g c =
    (let s = place_small (seen g.A.Mapping.kind c.args.self.now) c.requires.kept c.args.h.0 c.args.at _ c.in_ok-place.place c.in_ok-place.ensures.found
    (let ne = c.if-len-eq0.false in omega arith) in omega arith)

pub read_bytes-requires-clause-within : goal.read_bytes-requires-clause-within
read_bytes-requires-clause-within g c =
    let w = words_in (owns c.requires.kept) c.args.h.0 c.args.at _ c.in_ok-place.place c.in_ok-place.ensures.found
    (let ne = c.if-len-eq0.false in omega arith) in
    let e = in_region g.A.Mapping.kind c.args.self.now c.requires.laid in
    omega arith

pub returns-clause-answer : goal.returns-clause-answer
returns-clause-answer g c =
    read_is (seen g.A.Mapping.kind c.args.self.now) c.requires.kept c.args.h.0 c.args.at (length c.args.out.now) c.in_ok-place.place
    c.in_ok-place.ensures.found c.read_bytes.new.out
    c.read_bytes.auto.out c.read_bytes.ensures.bytes

pub returns-then-len-eq0-clause-answer : goal.returns-then-len-eq0-clause-answer
returns-then-len-eq0-clause-answer g c =
    let none = c.if-len-eq0.true in
    read_is (seen g.A.Mapping.kind c.args.self.now) c.requires.kept c.args.h.0 c.args.at (length c.args.out.now) c.in_ok-place.place
    c.in_ok-place.ensures.found c.args.out.now refl (λ j less. absurd (omega arith))

pub returns-then-len-eq0-clause-steps : goal.returns-then-len-eq0-clause-steps
returns-then-len-eq0-clause-steps g c =
    subst (RoseBy _ _) (empty_steps g.A.Mapping.kind c.args.at (length c.args.out.now) c.if-len-eq0.true) c.in_ok-place.ensures.steps

pub returns-clause-steps : goal.returns-clause-steps
returns-clause-steps g c =
    let kind = g.A.Mapping.kind in let h = seen kind c.args.self.now in
    let whole = (whole_slot h c.requires.kept c.args.h.0 (placed_at (owner_in h) c.in_ok-place.place)
    (held (owns c.requires.kept) c.args.h.0 c.in_ok-place.place c.in_ok-place.ensures.found.found)).0 in
    subst (RoseBy _ _) (touched_steps kind c.in_ok-place.place c.args.at (length c.args.out.now) whole c.if-len-eq0.false)
    (rose_both _ _ _ _ _ c.in_ok-place.ensures.steps c.read_bytes.ensures.steps)
