use Rattle.cf_io.proofs.CallerLemmas.{five, puts_line}
use Rattle.std.proofs.lemmas.Bool.{ne_eqb}
use Rattle.frag_report.proofs.reports.put_class.Goals as goal

pub returns : goal.returns
returns g c =
    rw (ne_eqb c.args.figures.now.live 0 c.if-figures-eq0.false) (puts_line _ _ c.args.lead.now _ _ c.put_line.result
    (five c.args.lead.now _ _ _ _ _ _ _ _ _ _ _ c.begin_line.ensures c.push_field.ensures.text c.push_field-2.ensures.text
    c.push_field-3.ensures.text c.push_field-4.ensures.text c.push_field-5.ensures.text)
    c.put_line.ensures)
