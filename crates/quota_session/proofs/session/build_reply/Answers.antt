use Rattle.std.proofs.Common.{Some}
use Rattle.cf_base.specs.Settings.{profile_of}
use Rattle.quota_session.proofs.session.build_reply.Goals as goal

pub returns-in_default : goal.returns-in_default
returns-in_default c = record {
  speaks = record { turn = c.build_reply_present.ensures.step (Some (profile_of c.args.s.now)); room = c.build_reply_present.ensures.room };
  outcome = c.build_reply_present.ensures.outcome;
  steps = c.build_reply_present.ensures.steps;
}
