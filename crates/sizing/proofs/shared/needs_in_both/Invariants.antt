use Rattle.std.proofs.Common.{◌≡◌, ℕ, ◌<◌, length}
use Rattle.sizing.specs.Checks.{common_entry, need_at}
use Rattle.sizing.proofs.shared.needs_in_both.Given as goal

abbrev pub invariant-loop-i : goal.invariant-loop-i
invariant-loop-i l = record {
  long : length l.both ≡ 64;
  made : (k : ℕ) → k < l.i → need_at l.both k ≡ common_entry l.needs l.others k;
}
