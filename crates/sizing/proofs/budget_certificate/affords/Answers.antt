use Rattle.std.proofs.Common.{◌≤◌, ◌*◌, ap, arith, slice_index, ◌∙◌}
use Rattle.std.specs.Prelude.{sum_by}
use Rattle.std.specs.List.{range_with_len}
use Rattle.std.proofs.lemmas.Bool.{false≢true}
use Rattle.page_model.specs.Paging.{classes, slots_of}
use Rattle.sizing.specs.Checks.{paging_with}
use Rattle.sizing.specs.Demands.{objects_to_open}
use Rattle.cf_base.proofs.Ranges.{sum_next}
use Rattle.sizing.proofs.budget_certificate.affords.Goals as goal

pub objects_to_open-requires-clause-slots : goal.objects_to_open-requires-clause-slots
objects_to_open-requires-clause-slots c = (let few = c.slots_in.ensures.few in let most = c.requires.words in omega arith)

pub returns-then-cost-left : goal.returns-then-cost-left
returns-then-cost-left c = (
  λ no. absurd (false≢true no),
  λ paid. absurd (
      let within : sum_by (λ i. objects_to_open (slice_index c.args.opened.now i) (slots_of (paging_with 0 c.args.heap.now) i) * slice_index c.args.prices.now i)
      (range_with_len 0 (classes (paging_with 0 c.args.heap.now))) ≤ c.args.budget = paid in
      let r = c.loop-c.invariant.rest in
      let n = sum_next (λ i. objects_to_open (slice_index c.args.opened.now i) (slots_of (paging_with 0 c.args.heap.now) i) * slice_index c.args.prices.now i)
      c.loop-c.c _ c.loop-c-test.true in
      let e = c.objects_to_open.ensures.objects ∙ ap (objects_to_open (slice_index c.args.opened.now c.loop-c.c)) c.slots_in.ensures.slots in
      let t = ap (λ x. x * slice_index c.args.prices.now c.loop-c.c) e in
      let over = c.if-cost-left.true in
      omega arith),
)

pub loop-c-preserved : goal.loop-c-preserved
loop-c-preserved c =
    let k = c.loop-c.invariant in
    let n = sum_next (λ i. objects_to_open (slice_index c.args.opened.now i) (slots_of (paging_with 0 c.args.heap.now) i) * slice_index c.args.prices.now i)
    c.loop-c.c _ c.loop-c-test.true in
    let e = c.objects_to_open.ensures.objects ∙ ap (objects_to_open (slice_index c.args.opened.now c.loop-c.c)) c.slots_in.ensures.slots in
    let t = ap (λ x. x * slice_index c.args.prices.now c.loop-c.c) e in
    let over = c.if-cost-left.false in
    record { low = (let l = k.low in omega arith); rest = (let r = k.rest in omega arith) }
