use Rattle.cf_io.specs.Feeds.{WritesAll}
use Rattle.cf_model.specs.State.{paging_in}
use Rattle.frag_report.specs.Classes.{classes_below}
use Rattle.run_model.specs.Texts.{led}
use Rattle.frag_report.proofs.reports.put_classes.Given as goal

abbrev pub invariant-loop-c : goal.invariant-loop-c
invariant-loop-c g l = record {
  put : WritesAll (g.K.Sink.state l.initial.out)
      (led l.lead (classes_below (paging_in (g.H.Manager.state l.heap)) (g.H.Manager.state l.heap).held l.c)) (g.K.Sink.state l.out);
}
