use Rattle.std.proofs.Common.{◌+◌, ◌*◌, ◌≤◌}
use Rattle.step_ledger.specs.Counting.{RoseAtMost}
use Rattle.cf_model.specs.State.{paging_in}
use Rattle.large_objects.specs.Growing.{GrowsInner}
use Rattle.large_objects.specs.LargeCosts.{ByCosts, object_malloc_steps}
use Rattle.large_objects.proofs.CostLemmas.{parts_malloc_from}
use Rattle.large_objects.proofs.malloc.make_long.Given as goal

abbrev pub invariant-loop-i : goal.invariant-loop-i
invariant-loop-i g l = record {
  step : GrowsInner l.part_bytes l.bytes (g.H.Manager.state l.fn.inner) l.spine.0 l.i (g.H.Manager.state l.inner);
  few : RoseAtMost l.fn.steps l.steps (64 + 132 * l.i);
  -- the steps of the parts that are left are still to come
  steps : ByCosts (g.H.Manager.state l.fn.inner) g.H.StepBounds.most (λ c. l.steps
      + parts_malloc_from c (paging_in (g.H.Manager.state l.fn.inner)) l.part_bytes l.bytes l.i
      ≤ l.fn.steps + object_malloc_steps c (paging_in (g.H.Manager.state l.fn.inner)) l.part_bytes l.bytes);
}
