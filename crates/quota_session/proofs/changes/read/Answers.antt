use Rattle.std.proofs.Common.{◌∙◌, Some, length, sym}
use Rattle.script_laws.proofs.CallerLemmas.{read_fault, read_said, read_unknown}
use Rattle.quota_session.specs.TaskRun.{task_calls, task_run}
use Rattle.quota_session.proofs.RunInvariant.{bytes_by, fault_on}
use Rattle.quota_session.proofs.changes.read.Goals as goal

pub returns-in_default-clause-text : goal.returns-in_default-clause-text
returns-in_default-clause-text c = c.push_short.ensures.text
    ∙ sym (read_unknown (task_calls c.args.task) (task_run c.args.ids.now c.args.heap.now) c.args.id c.args.at (length c.args.buffer.now)
    c.in_default.ensures.found)

pub returns-in-Ok-clause-text : goal.returns-in-Ok-clause-text
returns-in-Ok-clause-text c = (let r = c.in-Ok.ensures.answer in c.push_bytes.ensures.text
    ∙ sym (read_said (task_calls c.args.task) (task_run c.args.ids.now c.args.heap.now) c.args.id c.args.at (length c.args.buffer.now) c.in-Some.h.0
    c.in-Some.ensures.found r.object.bytes c.read.new.out (bytes_by c.args.heap.now c.args.task c.in-Some.h.0 (Some r.object) r.found) r.within r.value))

pub returns-in-Err-clause-text : goal.returns-in-Err-clause-text
returns-in-Err-clause-text c = c.push_short-in-Err.ensures.text ∙ c.fault_reply.ensures
    ∙ sym (read_fault (task_calls c.args.task) (task_run c.args.ids.now c.args.heap.now) c.args.id c.args.at (length c.args.buffer.now) c.in-Some.h.0
    c.in-Some.ensures.found c.in-Err.fault (fault_on c.args.heap.now c.args.task _ _ c.in-Err.fault c.in-Err.ensures.answer.0))
