use Rattle.std.proofs.Common.{ℕ, ◌≢◌, ◌<◌, ◌≤◌, slice_index}
use Rattle.std.specs.Prelude.{sum_by}
use Rattle.std.specs.List.{range_with_len}
use Rattle.page_model.specs.Paging.{classes}
use Rattle.sizing.specs.Certificates.{pages_with_copy}
use Rattle.sizing.specs.Checks.{paging_with}
use Rattle.sizing.proofs.resizes.copy_fits.Given as goal

abbrev pub invariant-loop-d : goal.invariant-loop-d
invariant-loop-d l = (k : ℕ) → k < l.d → k ≢ l.c → 0 < slice_index l.counts.after k
    → sum_by (λ e. pages_with_copy (paging_with l.pages l.heap) l.c k e (slice_index l.x.pages e) (slice_index l.counts.kept e) (slice_index l.counts.before e) (slice_index l.counts.after e))
    (range_with_len 0 (classes (paging_with l.pages l.heap))) ≤ l.pages
