use Rattle.std.proofs.Common.{◌/◌, ◌^◌, sym, arith, ap, subst, rules, ◌∙◌}
use Rattle.step_ledger.specs.Counting.{RoseAtMost}
use Rattle.paged_heap.specs.Payload.{payload_bound}
use Rattle.paged_heap.proofs.PayloadWords.{count_is, lent_is, none_lent, run_inside, run_small}
use Rattle.page_slots.proofs.CallerLemmas.{place_in}
use Rattle.paged_heap.proofs.LayoutFacts.{owns}
use Rattle.paged_heap.proofs.payload.payload.Goals as goal

pub returns-in_default-clause-value : goal.returns-in_default-clause-value
returns-in_default-clause-value c = sym (none_lent c.args.heap.now c.requires.kept.kept c.args.h.0 (sym c.in_default.ensures.found))

pub read-requires : goal.read-requires
read-requires c = record { within = place_in (owns c.requires.kept.kept) c.args.h.0 c.in-Some.place (sym c.in-Some.ensures.found) }

pub overflow_add-place : goal.overflow_add-place
overflow_add-place c = record { fits = run_small c.args.heap.now c.requires.kept.kept c.args.h.0 c.in-Some.place (sym c.in-Some.ensures.found) }

pub payload-requires : goal.payload-requires
payload-requires c =
    let r = run_inside c.args.heap.now c.requires.kept.kept c.args.h.0 c.in-Some.place (sym c.in-Some.ensures.found) in
    let n = count_is c.args.heap.now c.in-Some.place c.unpack-count.result.length (c.unpack-count.ensures.length ∙ ap (λ w. w / 2 ^ 32) c.read.ensures.value) in
    record { within = omega arith }

pub returns-clause-value : goal.returns-clause-value
returns-clause-value c =
    lent_is c.args.heap.now c.requires.kept.kept c.args.h.0 c.in-Some.place (sym c.in-Some.ensures.found) _
    (count_is c.args.heap.now c.in-Some.place c.unpack-count.result.length (c.unpack-count.ensures.length
    ∙ ap (λ w. w / 2 ^ 32) c.read.ensures.value)) c.payload.result.now c.payload.ensures.value

pub returns-clause-bound : goal.returns-clause-bound
returns-clause-bound c =
    let is = lent_is c.args.heap.now c.requires.kept.kept c.args.h.0 c.in-Some.place (sym c.in-Some.ensures.found) _
    (count_is c.args.heap.now c.in-Some.place c.unpack-count.result.length (c.unpack-count.ensures.length
    ∙ ap (λ w. w / 2 ^ 32) c.read.ensures.value)) c.payload.result.now c.payload.ensures.value in
    subst (λ o. RoseAtMost c.args.steps.now c.payload.new.steps (payload_bound o)) is (search rules)
