use Rattle.std.proofs.Common.{◌+◌, ◌*◌}
use Rattle.slice_model.specs.Steps.{AreSlices}
use Rattle.sliced_heap.specs.Shown.{KeepsSlicedRules, StaysSlicedOpen, plan_in, working_in}
use Rattle.step_ledger.specs.Counting.{RoseAtMost}
use Rattle.library_example.proofs.control_loop.next_frame.Given as goal

abbrev pub invariant-loop-i : goal.invariant-loop-i
invariant-loop-i l = record {
  slices : AreSlices (plan_in l.initial.heap) l.i (working_in l.initial.heap).state (working_in l.heap).state;
  same : StaysSlicedOpen l.initial.heap l.heap;
  rules : KeepsSlicedRules l.heap;
  cost : RoseAtMost l.initial.steps l.steps (l.i * (15 + l.initial.heap.quantum));
}
