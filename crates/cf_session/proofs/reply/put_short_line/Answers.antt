use Rattle.std.proofs.Common.{◌∙◌, arith, subst}
use Rattle.cf_session.specs.Apply.{IsEnded}
use Rattle.cf_session.specs.declared.outcome.Outcome.{Outcome}
use Rattle.cf_session.proofs.Reporting.{put_after, put_bare}
use Rattle.cf_session.proofs.reply.put_short_line.Goals as goal

pub returns-then-lead-gt0 : goal.returns-then-lead-gt0
returns-then-lead-gt0 g c = record {
  written = c.put_all.result;
  puts = put_after _ _ c.args.lead.now _ _ _ _ _ c.begin_line.ensures (c.bytes.ensures.value ∙ c.push_text.ensures) c.text_line.ensures.text
      c.put_all.ensures;
  ended = subst (λ (o : Outcome). IsEnded c.put_all.result o c.ended.result) c.outcome.ensures c.ended.ensures;
}

pub returns : goal.returns
returns g c = record {
  written = c.put_all-2.result;
  puts = put_bare _ _ c.args.lead.now _ _ _ (omega arith) c.text_line-2.ensures.text c.put_all-2.ensures;
  ended = subst (λ (o : Outcome). IsEnded c.put_all-2.result o c.ended-2.result) c.outcome-2.ensures c.ended-2.ensures;
}
