use Rattle.std.proofs.Common.{ℕ, ◌<◌, slice_index}
use Rattle.sizing.specs.Certificates.{LeadsInto, one_more_of}
use Rattle.sizing.specs.Checks.{paging_with}
use Rattle.sizing.proofs.resizes.keeps_resized.Given as goal

abbrev pub invariant-loop-c : goal.invariant-loop-c
invariant-loop-c l = (k : ℕ) → k < l.c → slice_index l.counts.kept k < slice_index l.counts.before k
    → slice_index l.counts.kept k < slice_index l.counts.after k → LeadsInto (paging_with 0 l.heap) l.points (one_more_of k (slice_index l.counts.kept)) l.x l.j
