use Rattle.quota_session.proofs.RunInvariant.{still_going, begins_going}
use Rattle.quota_session.proofs.CommandSteps.{begin_exists, quota_step_exists}
use Rattle.quota_session.proofs.laws.each_command_has_its_turn.Goals as goal

pub returns : goal.returns
returns c = record {
  begins = begin_exists;
  begun = begins_going;
  answered = λ old command going can. quota_step_exists c.a_page_is_there_for_each_quota.ensures old going command can;
  going = λ old new command reply going formed step. still_going old going command reply new formed step;
}
