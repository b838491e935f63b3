use Rattle.std.proofs.Common.{◌≡◌, ◌+◌, ◌-◌, slice_index}
use Rattle.std.specs.Prelude.{sum_by}
use Rattle.std.specs.List.{range_with_len}
use Rattle.page_model.specs.Paging.{classes}
use Rattle.sizing.specs.Certificates.{gap_beside}
use Rattle.sizing.specs.Checks.{paging_with}
use Rattle.sizing.proofs.budget_certificate.gaps_fit.Given as goal

abbrev pub invariant-loop-c : goal.invariant-loop-c
invariant-loop-c l = l.left + sum_by (gap_beside (paging_with 0 l.heap) (slice_index l.prices) l.budget l.i l.level) (range_with_len 0 (classes (paging_with 0 l.heap)))
    ≡ l.most + sum_by (gap_beside (paging_with 0 l.heap) (slice_index l.prices) l.budget l.i l.level) (range_with_len l.c (classes (paging_with 0 l.heap) - l.c))
