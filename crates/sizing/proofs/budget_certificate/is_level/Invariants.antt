use Rattle.std.proofs.Common.{ℕ, ◌*◌, ◌≤◌, ◌<◌, slice_index}
use Rattle.page_model.specs.Paging.{slots_of}
use Rattle.sizing.specs.Checks.{paging_with}
use Rattle.sizing.proofs.budget_certificate.is_level.Given as goal

abbrev pub invariant-loop-c : goal.invariant-loop-c
invariant-loop-c l = (k : ℕ) → k < l.c → l.level ≤ slots_of (paging_with 0 l.heap) k * slice_index l.prices k
