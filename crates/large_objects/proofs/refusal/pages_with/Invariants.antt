use Rattle.std.proofs.Common.{◌≡◌, ◌*◌, ◌^◌, ◌≤◌}
use Rattle.page_model.specs.Held.{objects}
use Rattle.cf_model.specs.State.{paging_in}
use Rattle.large_objects.specs.InnerObjects.{inner_lengths}
use Rattle.large_objects.proofs.Fitting.{in_before, pages_up_to}
use Rattle.large_objects.proofs.refusal.pages_with.Given as goal

abbrev pub invariant-loop-c : goal.invariant-loop-c
invariant-loop-c g l = record {
  sum : l.pages ≡ pages_up_to (paging_in (g.H.Manager.state l.inner)) (objects (g.H.Manager.state l.inner).held) (inner_lengths l.part_bytes l.bytes) l.c;
  before : l.before ≡ in_before (paging_in (g.H.Manager.state l.inner)) l.c (inner_lengths l.part_bytes l.bytes);
  small : l.pages ≤ l.c * 2 ^ 34;
}
