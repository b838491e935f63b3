use Rattle.std.proofs.Common.{ℕ, ◌≢◌, ◌<◌, ◌≤◌, slice_index}
use Rattle.std.specs.Prelude.{sum_by}
use Rattle.std.specs.List.{range_with_len}
use Rattle.page_model.specs.Paging.{classes}
use Rattle.sizing.specs.Certificates.{pages_with_copy}
use Rattle.sizing.specs.Checks.{paging_with}
use Rattle.sizing.proofs.resizes.holds_copies.Given as goal

abbrev pub invariant-loop-c : goal.invariant-loop-c
invariant-loop-c l = (k : ℕ) → k < l.c → 0 < slice_index l.counts.before k
    → (d : ℕ) → d < classes (paging_with l.pages l.heap) → d ≢ k → 0 < slice_index l.counts.after d
    → sum_by (λ e. pages_with_copy (paging_with l.pages l.heap) k d e (slice_index l.x.pages e) (slice_index l.counts.kept e) (slice_index l.counts.before e) (slice_index l.counts.after e))
    (range_with_len 0 (classes (paging_with l.pages l.heap))) ≤ l.pages
