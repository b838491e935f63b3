use Rattle.std.proofs.Common.{◌≤◌, ◌∙◌, arith, inl, inr, length, refl, sym}
use Rattle.cf_session.specs.Records.{session_of}
use Rattle.cf_session.proofs.Calling.{steps_line}
use Rattle.cf_session.proofs.Reporting.{steps_other, written}
use Rattle.cf_session.proofs.queries.build_steps_line.Goals as goal

pub returns-in-Moving : goal.returns-in-Moving
returns-in-Moving g c =
    let s = g.H.Manager.state c.args.heap.now in
    let session = session_of c.args.records.now in
    let begun : length c.begin_line.new.line ≤ 8 = rw c.begin_line.ensures c.requires.lead in
    written c.args.lead.now c.begin_line.new.line c.push_field-in-Moving-3.new.line _ _ c.begin_line.ensures
    (steps_line s.kind session s.cost _ _ _ _ c.begin_line.new.line _ _ _ _
    (elim c.in-Moving.is [ inl e ↦ inl (sym c.kind.ensures ∙ e) | inr e ↦ inr (sym c.kind.ensures ∙ e) ])
    c.cost.ensures refl refl refl
    c.push_field.ensures.text c.push_field-in-Moving.ensures.text c.push_field-in-Moving-2.ensures.text c.push_field-in-Moving-3.ensures.text)
    (omega (
      arith,
      begun,
      c.push_field.ensures.short,
      c.push_field-in-Moving.ensures.short,
      c.push_field-in-Moving-2.ensures.short,
      c.push_field-in-Moving-3.ensures.short,
    ))
    (steps_other s.kind session s.cost)
