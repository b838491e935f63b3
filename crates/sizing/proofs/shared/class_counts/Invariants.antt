use Rattle.std.proofs.Common.{◌≡◌, ℕ, ◌<◌, length, slice_index}
use Rattle.sizing.specs.Layout.{declared_from, size_before}
use Rattle.sizing.proofs.shared.class_counts.Given as goal

abbrev pub invariant-loop-c : goal.invariant-loop-c
invariant-loop-c l = record {
  long : length l.counts ≡ 67;
  below : l.below ≡ size_before l.heap.sizes.now l.c;
  made : (k : ℕ) → k < l.c → slice_index l.counts k ≡ declared_from l.heap.sizes.now k l.needs;
}
