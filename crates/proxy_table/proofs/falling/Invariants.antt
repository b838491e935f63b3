use Rattle.std.proofs.Common.{◌≡◌, ℕ, ◌-◌, ◌<◌, length, get_or}
use Rattle.proxy_table.proofs.falling.Given as goal

abbrev pub invariant-loop-i : goal.invariant-loop-i
invariant-loop-i l = record {
  long : length l.numbers.items ≡ l.i;
  falls : (i : ℕ) → i < length l.numbers.items → get_or l.numbers.items i 0 ≡ l.n - 1 - i;
}
