use Rattle.std.proofs.Common.{◌≡◌, ◌<◌, ◌≤◌, ◌+◌, ◌-◌, ◌%◌, ℕ, get_or, length}
use Rattle.cf_io.proofs.sources.fill_over.Given as goal

abbrev pub invariant-copies : goal.invariant-copies
invariant-copies l = record {
  inside : l.next < length l.pattern;
  within : l.full ≤ length l.buf;
  goes_on : l.next ≡ (l.at + l.full) % length l.pattern;
  loops : (k : ℕ) → k < l.full → get_or l.buf k 0 ≡ get_or l.pattern ((l.at + k) % length l.pattern) 0;
}

abbrev pub decreases-copies : goal.decreases-copies
decreases-copies l = length l.buf - l.full
