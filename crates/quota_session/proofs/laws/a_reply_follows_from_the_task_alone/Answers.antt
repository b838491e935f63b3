use Rattle.quota_session.proofs.Isolated.{same_leaves, same_refusal, same_reply}
use Rattle.quota_session.proofs.laws.a_reply_follows_from_the_task_alone.Goals as goal

pub returns : goal.returns
returns c = record {
  reply = λ one other task command p q o. same_reply one other task p q o command;
  left = λ one other task command p q o. same_leaves one other task p q o command;
  refusal = same_refusal;
}
