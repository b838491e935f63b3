use Rattle.std.proofs.Common.{ℕ, ◌<◌}
use Rattle.sizing.specs.Checks.{LeadsIntoMode, paging_with}
use Rattle.sizing.proofs.points.is_point.Given as goal

abbrev pub invariant-loop-j : goal.invariant-loop-j
invariant-loop-j l = (i : ℕ) → i < l.j → LeadsIntoMode (paging_with l.pages l.heap) l.modes l.points l.resizes l.x i
