use Rattle.std.proofs.Common.{◌≡◌, ℕ, ◌+◌, ◌*◌, ◌-◌, ◌<◌, ◌≤◌, List, Some, length, take}
use Rattle.std.specs.Prelude.{IsTrue}
use Rattle.std.specs.FinMap.{get, insert}
use Rattle.page_model.specs.Bytes.{written}
use Rattle.step_ledger.specs.Counting.{RoseAtMost}
use Rattle.large_objects.specs.LargeCosts.{ByCosts, parts_access_steps}
use Rattle.large_objects.specs.LargeSteps.{StaysKept, part_bytes_in}
use Rattle.large_objects.proofs.heap.LargeHeap.write_long.Given as goal

abbrev pub invariant-parts : goal.invariant-parts
invariant-parts g l = record {
  part_bytes : l.part_bytes ≡ part_bytes_in l.initial.self;
  positive : 0 < l.part_bytes;
  some : l.done ≤ length l.bytes;
  opened : IsTrue l.self.is_open;
  so_far : (v : List ℕ) → get l.initial.self.objects l.h.0 ≡ Some v → l.self.objects ≡ insert l.initial.self.objects l.h.0
      (written v l.at (take l.done l.bytes));
  kept : StaysKept l.initial.self l.self;
  few : RoseAtMost l.initial.steps l.steps (200 * l.done);
  -- the steps of the bytes that are left are still to come
  steps : ByCosts l.initial.self.inner g.H.StepBounds.most (λ c. l.steps + parts_access_steps c l.part_bytes (l.at + l.done) (length l.bytes - l.done)
      ≡ l.initial.steps + parts_access_steps c l.part_bytes l.at (length l.bytes));
}

abbrev pub decreases-parts : goal.decreases-parts
decreases-parts g l = length l.bytes - l.done
