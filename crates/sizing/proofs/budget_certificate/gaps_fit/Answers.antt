use Rattle.std.proofs.Common.{◌≤◌, arith, slice_index}
use Rattle.std.specs.Prelude.{sum_by}
use Rattle.std.specs.List.{range_with_len}
use Rattle.std.proofs.lemmas.Bool.{false≢true}
use Rattle.page_model.specs.Paging.{classes}
use Rattle.sizing.specs.Certificates.{gap_beside}
use Rattle.sizing.specs.Checks.{paging_with}
use Rattle.cf_base.proofs.Ranges.{sum_next}
use Rattle.sizing.proofs.budget_certificate.gaps_fit.Goals as goal

pub returns-then-gap-left : goal.returns-then-gap-left
returns-then-gap-left c = (
  λ no. absurd (false≢true no),
  λ fit. absurd (
      let within : sum_by (gap_beside (paging_with 0 c.args.heap.now) (slice_index c.args.prices.now) c.args.budget c.args.i c.args.level)
      (range_with_len 0 (classes (paging_with 0 c.args.heap.now))) ≤ c.args.most = fit in
      let r = c.loop-c.invariant in
      let n = sum_next (gap_beside (paging_with 0 c.args.heap.now) (slice_index c.args.prices.now) c.args.budget c.args.i c.args.level) c.loop-c.c _ c.loop-c-test.true in
      let gap = c.gap_beside-gap.ensures in
      let over = c.if-gap-left.true in
      omega arith),
)

pub loop-c-preserved : goal.loop-c-preserved
loop-c-preserved c =
    let r = c.loop-c.invariant in
    let n = sum_next (gap_beside (paging_with 0 c.args.heap.now) (slice_index c.args.prices.now) c.args.budget c.args.i c.args.level) c.loop-c.c _ c.loop-c-test.true in
    let gap = c.gap_beside-gap.ensures in
    let over = c.if-gap-left.false in
    omega arith
