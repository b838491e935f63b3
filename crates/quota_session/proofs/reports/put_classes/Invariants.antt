use Rattle.std.proofs.Common.{◌≡◌, ◌≤◌, ◌*◌, ◌^◌, [], sum_by}
use Rattle.std.specs.List.{range_with_len}
use Rattle.cf_io.specs.Feeds.{WritesAll}
use Rattle.run_model.specs.Terms.{classes, led}
use Rattle.frag_report.specs.Classes.{classes_below}
use Rattle.page_model.specs.Arrangement.{pages_of_class}
use Rattle.quota_heap.specs.State.{held_by}
use Rattle.quota_model.specs.Refusals.{task_paging}
use Rattle.quota_session.proofs.reports.put_classes.Given as goal

abbrev pub invariant-loop-c : goal.invariant-loop-c
invariant-loop-c g l = record {
  put : WritesAll (g.K.Sink.state l.initial.out) (led [] (classes_below (task_paging l.heap.profile) (held_by l.heap l.task) l.c)) (g.K.Sink.state l.out);
  used : l.used ≡ sum_by (pages_of_class (task_paging l.heap.profile) (held_by l.heap l.task)) (range_with_len 0 l.c);
  within : l.c ≤ classes (task_paging l.heap.profile);
  few : l.used ≤ l.c * 2 ^ 32;
}
