use Rattle.std.proofs.Common.{ℕ, ◌<◌, slice_index}
use Rattle.sizing.specs.Certificates.{IsBudgetLevel}
use Rattle.sizing.specs.Checks.{paging_with}
use Rattle.sizing.proofs.budget_certificate.are_enough.Given as goal

abbrev pub invariant-loop-i : goal.invariant-loop-i
invariant-loop-i l = (k : ℕ) → k < l.i → IsBudgetLevel (paging_with l.pages l.heap) (slice_index l.prices) l.budget k (slice_index l.levels k)
