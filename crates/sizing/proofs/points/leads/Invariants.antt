use Rattle.std.proofs.Common.{ℕ, ◌≤◌, ◌<◌, min, slice_index}
use Rattle.page_model.specs.Counts.{most_pages}
use Rattle.page_model.specs.Paging.{bound_of, slots_of}
use Rattle.sizing.specs.Checks.{paging_with}
use Rattle.sizing.proofs.points.leads.Given as goal

abbrev pub invariant-loop-c : goal.invariant-loop-c
invariant-loop-c l = (k : ℕ) → k < l.c
    → min (slice_index l.x.pages k) (most_pages (slice_index l.kept k) (slots_of (paging_with 0 l.heap) k) (bound_of (paging_with 0 l.heap) k))
    ≤ slice_index l.y.pages k
