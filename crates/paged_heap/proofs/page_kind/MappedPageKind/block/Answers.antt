use Rattle.std.proofs.Common.{◌+◌, ◌/◌, get_or, arith, sym, ◌∙◌, ap}
use Rattle.cf_base.specs.declared.kind.Kind.TheVariants.{NonMoving}
use Rattle.virtual_words.specs.Words.{frames_in}
use Rattle.step_ledger.proofs.CallerLemmas.{rose_both}
use Rattle.paged_heap.specs.Heap.{seen}
use Rattle.paged_heap.specs.Layout.{state_at, owner_in}
use Rattle.paged_heap.proofs.ByKind.{in_region}
use Rattle.paged_heap.proofs.LayoutFacts.{owns}
use Rattle.paged_heap.proofs.Blocks.{block_given, block_past, block_there, none_live, steps_gone, steps_given, steps_past}
use Rattle.page_slots.proofs.CallerLemmas.{no_place, place_in, has_class, object_at, it, it_found, it_slot}
use Rattle.paged_heap.proofs.page_kind.MappedPageKind.block.Goals as goal

pub returns-in_default-clause-value : goal.returns-in_default-clause-value
returns-in_default-clause-value c =
    none_live (state_at NonMoving c.args.heap.now) c.args.h.0 c.args.i
    (no_place (owner_in (seen NonMoving c.args.heap.now)) c.args.h.0 (sym c.in_default.ensures.found))

pub length_at-length-requires-clause-within : goal.length_at-length-requires-clause-within
length_at-length-requires-clause-within c =
    let l = place_in (owns c.requires.kept) c.args.h.0 c.in-Some.place (sym c.in-Some.ensures.found) in
    let e = in_region NonMoving c.args.heap.now c.requires.laid in
    omega arith

pub unreachable-requires : goal.unreachable-requires
unreachable-requires c =
    has_class (owns c.requires.kept) c.args.h.0 c.in-Some.place (sym c.in-Some.ensures.found) c.length_at-length.result
    c.length_at-length.ensures.value c.in_default-class_of.ensures.found

pub block-requires : goal.block-requires
block-requires c =
    let h = seen NonMoving c.args.heap.now in let k = c.requires.kept in
    let o = object_at (owns k) c.args.h.0 c.in-Some.place (sym c.in-Some.ensures.found) c.length_at-length.result c.length_at-length.ensures.value
    c.in-Some-class_of.c c.in-Some-class_of.ensures.found in
    let w = c.slot_words.ensures.value in let lt = c.if-i-slot_words.true in
    block_there c.args.heap.now k c.args.h.0 c.in-Some.place c.length_at-length.result c.in-Some-class_of.c o c.in-Some-blocks.table c.in-Some-blocks.is
    c.args.i (omega arith)

pub returns-in-Some-blocks-clause-value : goal.returns-in-Some-blocks-clause-value
returns-in-Some-blocks-clause-value c =
    let h = seen NonMoving c.args.heap.now in let k = c.requires.kept in
    let o = object_at (owns k) c.args.h.0 c.in-Some.place (sym c.in-Some.ensures.found) c.length_at-length.result c.length_at-length.ensures.value
    c.in-Some-class_of.c c.in-Some-class_of.ensures.found in
    let slot = it_slot (owns k) o in
    let w = c.slot_words.ensures.value in let lt = c.if-i-slot_words.true in
    block_given (state_at NonMoving c.args.heap.now) c.args.h.0 c.args.i (it (owns k) o) (it_found (owns k) o)
    (omega arith) c.block.result (c.block.ensures.value ∙ ap (λ b. get_or (frames_in b) (c.in-Some.place / 4 + c.args.i) 0) (sym c.in-Some-blocks.is))

pub returns-else-i-slot_words-clause-value : goal.returns-else-i-slot_words-clause-value
returns-else-i-slot_words-clause-value c =
    let h = seen NonMoving c.args.heap.now in let k = c.requires.kept in
    let o = object_at (owns k) c.args.h.0 c.in-Some.place (sym c.in-Some.ensures.found) c.length_at-length.result c.length_at-length.ensures.value
    c.in-Some-class_of.c c.in-Some-class_of.ensures.found in
    let slot = it_slot (owns k) o in
    let w = c.slot_words.ensures.value in let le = c.if-i-slot_words.false in
    block_past (state_at NonMoving c.args.heap.now) c.args.h.0 c.args.i (it (owns k) o) (it_found (owns k) o) (omega arith)

pub returns-in_default-clause-steps : goal.returns-in_default-clause-steps
returns-in_default-clause-steps c =
    steps_gone (state_at NonMoving c.args.heap.now) c.args.h.0 _ _
    (no_place (owner_in (seen NonMoving c.args.heap.now)) c.args.h.0 (sym c.in_default.ensures.found)) c.in_default.ensures.steps

pub returns-in-Some-blocks-clause-steps : goal.returns-in-Some-blocks-clause-steps
returns-in-Some-blocks-clause-steps c =
    let h = seen NonMoving c.args.heap.now in let k = c.requires.kept in
    let o = object_at (owns k) c.args.h.0 c.in-Some.place (sym c.in-Some.ensures.found) c.length_at-length.result c.length_at-length.ensures.value
    c.in-Some-class_of.c c.in-Some-class_of.ensures.found in
    steps_given (state_at NonMoving c.args.heap.now) c.args.h.0 _ _ (it (owns k) o) (it_found (owns k) o) c.block.result
    (rose_both _ _ _ _ _ (rose_both _ _ _ _ _ (rose_both _ _ _ _ _ c.in-Some.ensures.steps c.length_at-length.ensures.steps)
    c.in-Some-class_of.ensures.steps) c.block.ensures.steps)

pub returns-else-i-slot_words-clause-steps : goal.returns-else-i-slot_words-clause-steps
returns-else-i-slot_words-clause-steps c =
    let h = seen NonMoving c.args.heap.now in let k = c.requires.kept in
    let o = object_at (owns k) c.args.h.0 c.in-Some.place (sym c.in-Some.ensures.found) c.length_at-length.result c.length_at-length.ensures.value
    c.in-Some-class_of.c c.in-Some-class_of.ensures.found in
    steps_past (state_at NonMoving c.args.heap.now) c.args.h.0 _ _ (it (owns k) o) (it_found (owns k) o)
    (rose_both _ _ _ _ _ (rose_both _ _ _ _ _ c.in-Some.ensures.steps c.length_at-length.ensures.steps) c.in-Some-class_of.ensures.steps)
