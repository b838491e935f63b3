use Rattle.std.proofs.Common.{◌+◌, ◌*◌, ◌≤◌, ◌^◌}
use Rattle.step_ledger.specs.Counting.{RoseAtMost}
use Rattle.cf_model.specs.State.{paging_in}
use Rattle.large_objects.specs.LargeCosts.{ByCosts, parts_free_steps}
use Rattle.large_objects.specs.Shrinking.{Shrinks}
use Rattle.large_objects.proofs.CostLemmas.{parts_free_from}
use Rattle.large_objects.proofs.free.release_parts.Given as goal

abbrev pub invariant-loop-i : goal.invariant-loop-i
invariant-loop-i g l = record {
  step : Shrinks l.part_bytes l.bytes (g.H.Manager.state l.fn.inner) l.spine.0 l.i (g.H.Manager.state l.inner);
  few : RoseAtMost l.fn.steps l.steps (l.i * 2 ^ 26);
  -- the steps of the parts that are left are still to come
  steps : ByCosts (g.H.Manager.state l.fn.inner) g.H.StepBounds.most (λ c. l.steps + parts_free_from c (paging_in (g.H.Manager.state l.fn.inner)) l.part_bytes l.bytes l.i
      ≤ l.fn.steps + parts_free_steps c (paging_in (g.H.Manager.state l.fn.inner)) l.part_bytes l.bytes);
}
