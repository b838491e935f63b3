use Rattle.std.proofs.Common.{◌≡◌, ap, sym}
use Rattle.cf_io.proofs.CallerLemmas.{puts_line, three}
use Rattle.cf_model.specs.Answers.{totals_in, usage_of}
use Rattle.cf_model.specs.declared.usage.Usage.{Usage}
use Rattle.frag_report.proofs.reports.frag_line.Goals as goal

pub returns-clause-puts : goal.returns-clause-puts
returns-clause-puts g c =
    let s = g.H.Manager.state c.args.heap.now in
    let totals = totals_in s.kind s in
    let is : usage_of totals ≡ c.usage-usage.result = sym c.usage-usage.ensures in
    let asked : totals.asked ≡ c.usage-usage.result.asked = ap (λ (u : Usage). u.asked) is in
    let taken : totals.taken ≡ c.usage-usage.result.taken = ap (λ (u : Usage). u.taken) is in
    let held : totals.held ≡ c.usage-usage.result.held = ap (λ (u : Usage). u.held) is in
    rw (asked, taken, held) (puts_line _ _ c.args.lead.now _ _ c.put_line.result
    (three c.args.lead.now _ _ _ _ _ _ _ c.begin_line.ensures c.push_field.ensures.text c.push_field-2.ensures.text c.push_field-3.ensures.text)
    c.put_line.ensures)
