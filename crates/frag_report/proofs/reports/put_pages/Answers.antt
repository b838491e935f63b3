use Rattle.std.proofs.Common.{◌++◌, ap}
use Rattle.cf_base.specs.declared.results.Totals.{Totals}
use Rattle.cf_io.proofs.CallerLemmas.{puts_same}
use Rattle.cf_model.specs.Answers.{classes_in}
use Rattle.cf_model.specs.State.{paging_in}
use Rattle.run_model.specs.Reports.{total_line}
use Rattle.run_model.specs.Texts.{led, said}
use Rattle.frag_report.specs.Classes.{classes_below}
use Rattle.frag_report.proofs.Classes.{lines_cut, lines_then}
use Rattle.frag_report.proofs.reports.put_pages.Goals as goal

pub returns-in-Ok : goal.returns-in-Ok
returns-in-Ok g c =
    let s = g.H.Manager.state c.args.heap.now in
    let lines = classes_below (paging_in s) s.held (classes_in s.kind s) in
    puts_same _ _ _ _ c.put_total.result (ap (λ (t : Totals). led c.args.lead.now (lines ++ said (total_line t))) c.requires.totals)
    (lines_then c.args.lead.now lines (said (total_line c.args.totals.now)) _ _ _ c.put_total.result c.in-Ok.ensures c.put_total.ensures)

pub returns-in-Err : goal.returns-in-Err
returns-in-Err g c =
    let s = g.H.Manager.state c.args.heap.now in
    lines_cut c.args.lead.now (classes_below (paging_in s) s.held (classes_in s.kind s)) _ _ _ _ c.in-Err.ensures
