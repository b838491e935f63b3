use Rattle.std.proofs.Common.{◌∙◌, ◌++◌, List, [], ℕ, ap}
use Rattle.cf_io.proofs.CallerLemmas.{puts_same}
use Rattle.cf_io.specs.Texts.{led, said}
use Rattle.frag_report.specs.Classes.{totals_with}
use Rattle.frag_report.proofs.CallerLemmas.{lines_cut, lines_then}
use Rattle.run_model.specs.Reports.{total_line}
use Rattle.quota_session.specs.TaskRun.{class_lines, task_classes, task_totals}
use Rattle.quota_session.proofs.RunInvariant.{as_many, totals_are}
use Rattle.quota_session.proofs.reports.walk.Goals as goal

pub returns-in-Ok : goal.returns-in-Ok
returns-in-Ok g c =
    let s = c.args.heap.now in
    let lines = class_lines s c.args.task (task_classes s c.args.task) in
    let last = ap (λ f. total_line (totals_with c.live.result c.in-Ok.used f)) c.saturating_sub.ensures
    ∙ totals_are s c.args.task c.live.result c.in-Ok.used c.quota-quota.result (c.live.ensures.count ∙ as_many _ _ c.requires.tied)
    c.in-Ok.ensures.used c.quota-quota.ensures in
    puts_same _ _ _ _ c.put_total.result (ap (λ (t : List ℕ). led [] (lines ++ said t)) last)
    (lines_then [] lines (said (total_line (totals_with c.live.result c.in-Ok.used c.saturating_sub.result))) _ _ _ c.put_total.result c.in-Ok.ensures.puts
    c.put_total.ensures)

pub returns-in-Err : goal.returns-in-Err
returns-in-Err g c =
    lines_cut [] (class_lines c.args.heap.now c.args.task (task_classes c.args.heap.now c.args.task)) (said (total_line (task_totals c.args.heap.now c.args.task)))
    _ _ _ c.in-Err.ensures.puts
