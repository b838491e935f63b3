use Rattle.std.proofs.Common.{◌/◌, ◌^◌, sym, arith, ap, ◌∙◌}
use Rattle.paged_heap.proofs.PayloadWords.{count_is, run_inside, run_small}
use Rattle.page_slots.proofs.CallerLemmas.{place_in}
use Rattle.paged_heap.proofs.LayoutFacts.{owns}
use Rattle.paged_heap.proofs.payload.find_words.Goals as goal

pub read-requires : goal.read-requires
read-requires c = record { within = place_in (owns c.requires.kept.kept) c.args.h.0 c.in-Some.place (sym c.in-Some.ensures.found) }

pub overflow_add-result : goal.overflow_add-result
overflow_add-result c = record { fits = run_small c.args.heap.now c.requires.kept.kept c.args.h.0 c.in-Some.place (sym c.in-Some.ensures.found) }

pub returns-in-Some-clause-within : goal.returns-in-Some-clause-within
returns-in-Some-clause-within c =
    let r = run_inside c.args.heap.now c.requires.kept.kept c.args.h.0 c.in-Some.place (sym c.in-Some.ensures.found) in
    let n = count_is c.args.heap.now c.in-Some.place c.unpack-count.result.length (c.unpack-count.ensures.length ∙ ap (λ w. w / 2 ^ 32) c.read.ensures.value) in
    omega arith
