use Rattle.std.proofs.Common.{◌≡◌, ℕ, ◌+◌, ◌*◌, ◌-◌, ◌<◌, ◌≤◌, List, Some, length, take, drop}
use Rattle.std.specs.FinMap.{get}
use Rattle.large_objects.specs.Large.{KeepsParts}
use Rattle.step_ledger.specs.Counting.{RoseAtMost}
use Rattle.large_objects.specs.LargeCosts.{ByCosts, parts_access_steps}
use Rattle.large_objects.specs.LargeSteps.{part_bytes_in}
use Rattle.large_objects.proofs.heap.LargeHeap.read_long.Given as goal

abbrev pub invariant-parts : goal.invariant-parts
invariant-parts g l = record {
  part_bytes : l.part_bytes ≡ part_bytes_in l.self;
  positive : 0 < l.part_bytes;
  parts : KeepsParts l.self;
  room : length l.out ≡ length l.initial.out;
  some : l.done ≤ length l.out;
  so_far : (v : List ℕ) → get l.self.objects l.h.0 ≡ Some v → take l.done l.out ≡ take l.done (drop l.at v);
  few : RoseAtMost l.initial.steps l.steps (200 * l.done);
  -- the steps of the bytes that are left are still to come
  steps : ByCosts l.self.inner g.H.StepBounds.most (λ c. l.steps + parts_access_steps c l.part_bytes (l.at + l.done) (length l.initial.out - l.done)
      ≡ l.initial.steps + parts_access_steps c l.part_bytes l.at (length l.initial.out));
}

abbrev pub decreases-parts : goal.decreases-parts
decreases-parts g l = length l.initial.out - l.done
