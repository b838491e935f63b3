use Rattle.script_reader.specs.Owned.{owned_command}
use Rattle.id_table.proofs.CallerLemmas.{going_inside}
use Rattle.cf_session.proofs.Reporting.{applied_going}
use Rattle.cf_session.proofs.session.Session.apply_ref.Goals as goal

pub answer-requires-clause-going : goal.answer-requires-clause-going
answer-requires-clause-going g c = going_inside _ _ _ c.self.view_is c.requires.going

pub returns-clause-going : goal.returns-clause-going
returns-clause-going g c =
    applied_going _ _ (owned_command c.args.c) c.args.lead.now _ _ c.answer.result (going_inside _ _ _ c.self.view_is c.requires.going) c.answer.ensures.step
