use Rattle.cf_io.proofs.CallerLemmas.{puts_line, three}
use Rattle.frag_report.proofs.reports.put_total.Goals as goal

pub returns : goal.returns
returns g c =
    puts_line _ _ c.args.lead.now _ _ c.put_line.result
    (three c.args.lead.now _ _ _ _ _ _ _ c.begin_line.ensures c.push_field.ensures.text c.push_field-2.ensures.text c.push_field-3.ensures.text)
    c.put_line.ensures
