use Rattle.std.proofs.Common.{◌∙◌}
use Rattle.cf_session.proofs.session.Session.apply.Goals as goal

pub apply_ref-requires-clause-going : goal.apply_ref-requires-clause-going
apply_ref-requires-clause-going g c = record {
  opened = c.requires.open;
  rules = c.is_open-open.ensures.rules (c.is_open-open.ensures.value ∙ c.requires.open);
  tied = c.requires.tied;
}

pub apply_ref-requires-clause-formed : goal.apply_ref-requires-clause-formed
apply_ref-requires-clause-formed g c = rw c.as_ref.ensures c.requires.formed

pub returns-clause-step : goal.returns-clause-step
returns-clause-step g c = rw (← c.as_ref.ensures) c.apply_ref.ensures.step
