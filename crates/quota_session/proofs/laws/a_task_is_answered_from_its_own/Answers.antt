use Rattle.quota_session.proofs.ScriptShown.{alike_replies, reply_shown, tasks_after}
use Rattle.quota_session.proofs.laws.a_task_is_answered_from_its_own.Goals as goal

pub returns : goal.returns
returns c = record {
  reply = λ old new command reply going own step. reply_shown old going command reply new own step;
  after = λ old new command reply going can step. tasks_after old going command reply new can step;
  alike = alike_replies c.a_reply_follows_from_the_task_alone.ensures.reply;
}
