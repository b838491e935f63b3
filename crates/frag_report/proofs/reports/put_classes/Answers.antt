use Rattle.cf_model.specs.Answers.{classes_in}
use Rattle.cf_model.specs.State.{paging_in}
use Rattle.page_model.specs.Figures.{figures_of}
use Rattle.frag_report.proofs.Classes.{class_cut, class_put, class_there}
use Rattle.frag_report.proofs.reports.put_classes.Goals as goal

pub returns-in-Err : goal.returns-in-Err
returns-in-Err g c =
    let s = g.H.Manager.state c.args.heap.now in
    let there = class_there c.loop-c.c (classes_in s.kind s) c.in-Some.figures (figures_of (paging_in s) s.held c.loop-c.c) c.in-Some.ensures in
    class_cut (paging_in s) s.held c.args.lead.now c.loop-c.c _ c.in-Some.figures _ _ _ _ there.0 there.1 c.loop-c.invariant.put c.in-Err.ensures

pub loop-c-preserved : goal.loop-c-preserved
loop-c-preserved g c =
    let s = g.H.Manager.state c.args.heap.now in
    let there = class_there c.loop-c.c (classes_in s.kind s) c.in-Some.figures (figures_of (paging_in s) s.held c.loop-c.c) c.in-Some.ensures in
    record { put = class_put (paging_in s) s.held c.args.lead.now c.loop-c.c c.in-Some.figures _ _ _ there.1 c.loop-c.invariant.put c.in-Ok.ensures }
