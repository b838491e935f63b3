use Rattle.std.proofs.Common.{◌≡◌, ◌+◌, ◌-◌, ◌*◌, ◌^◌, ◌≤◌, slice_index}
use Rattle.std.specs.Prelude.{sum_by}
use Rattle.std.specs.List.{range_with_len}
use Rattle.sizing.proofs.points.pages_of.Given as goal

abbrev pub invariant-loop-c : goal.invariant-loop-c
invariant-loop-c l = record {
  small : l.sum ≤ l.c * 2 ^ 32;
  rest : l.sum + sum_by (slice_index l.x.pages) (range_with_len l.c (l.classes - l.c)) ≡ sum_by (slice_index l.x.pages) (range_with_len 0 l.classes);
}
