use Rattle.std.proofs.Common.{◌≡◌, ◌+◌, ◌-◌, ◌*◌, ◌^◌, ◌≤◌, slice_index}
use Rattle.std.specs.Prelude.{sum_by}
use Rattle.std.specs.List.{range_with_len}
use Rattle.page_model.specs.Paging.{classes}
use Rattle.sizing.specs.Certificates.{pages_with_copy}
use Rattle.sizing.specs.Checks.{paging_with}
use Rattle.sizing.proofs.resizes.pages_of_copies.Given as goal

abbrev pub invariant-loop-e : goal.invariant-loop-e
invariant-loop-e l = record {
  small : l.sum ≤ l.e * 2 ^ 32;
  rest : l.sum + sum_by (λ i. pages_with_copy (paging_with 0 l.heap) l.c l.d i (slice_index l.x.pages i) (slice_index l.counts.kept i) (slice_index l.counts.before i)
      (slice_index l.counts.after i)) (range_with_len l.e (classes (paging_with 0 l.heap) - l.e))
      ≡ sum_by (λ i. pages_with_copy (paging_with 0 l.heap) l.c l.d i (slice_index l.x.pages i) (slice_index l.counts.kept i) (slice_index l.counts.before i)
      (slice_index l.counts.after i)) (range_with_len 0 (classes (paging_with 0 l.heap)));
}
