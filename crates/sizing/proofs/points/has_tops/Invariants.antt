use Rattle.std.proofs.Common.{ℕ, ◌≤◌, ◌<◌, slice_index}
use Rattle.page_model.specs.Counts.{ceil_div}
use Rattle.page_model.specs.Paging.{slots_of}
use Rattle.sizing.specs.Checks.{paging_with}
use Rattle.sizing.specs.Demands.{count_in}
use Rattle.sizing.proofs.points.has_tops.Given as goal

abbrev pub invariant-loop-c : goal.invariant-loop-c
invariant-loop-c l = (k : ℕ) → k < l.c
    → ceil_div (count_in (paging_with 0 l.heap) l.mode.needs k) (slots_of (paging_with 0 l.heap) k) ≤ slice_index l.x.pages k
