use Rattle.quota_session.proofs.Worked.{admitted_beyond_quota, bytes_of_another_task, every_command_refused, fitting_malloc_refused, malloc_beyond_quota, malloc_without_line, malloc_without_reply, one_reply_too_many, quotas_beyond_pages}
use Rattle.quota_session.proofs.laws.wrong_task_replies_fall_short.Goals as goal

pub returns : goal.returns
returns c = record {
  refused = every_command_refused;
  room = fitting_malloc_refused;
  silent = malloc_without_line;
  missing = malloc_without_reply;
  over = one_reply_too_many;
  beyond = malloc_beyond_quota;
  foreign = bytes_of_another_task;
  admitted = admitted_beyond_quota;
  sum = quotas_beyond_pages;
}
