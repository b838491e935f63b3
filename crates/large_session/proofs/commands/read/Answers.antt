use Rattle.std.proofs.Common.{◌∙◌, length, sym}
use Rattle.large_session.specs.LargeRun.{large_calls, large_run}
use Rattle.script_laws.proofs.CallerLemmas.{read_fault, read_said, read_unknown}
use Rattle.large_session.proofs.RunInvariant.{fault_on}
use Rattle.large_session.proofs.commands.read.Goals as goal

pub returns-in_default-clause-text : goal.returns-in_default-clause-text
returns-in_default-clause-text g c = c.push_short.ensures.text
    ∙ sym (read_unknown large_calls (large_run c.args.ids.now c.args.heap.now) c.args.id c.args.at (length c.args.buffer.now) c.in_default.ensures.found)

pub returns-in-Ok-clause-text : goal.returns-in-Ok-clause-text
returns-in-Ok-clause-text g c = (let r = c.in-Ok.ensures.answer in c.push_bytes.ensures.text
    ∙ sym (read_said large_calls (large_run c.args.ids.now c.args.heap.now) c.args.id c.args.at (length c.args.buffer.now) c.in-Some.h.0
    c.in-Some.ensures.found r.object c.read.new.out r.found r.within r.value))

pub returns-in-Err-clause-text : goal.returns-in-Err-clause-text
returns-in-Err-clause-text g c = c.push_short-in-Err.ensures.text ∙ c.fault_reply.ensures
    ∙ sym (read_fault large_calls (large_run c.args.ids.now c.args.heap.now) c.args.id c.args.at (length c.args.buffer.now) c.in-Some.h.0
    c.in-Some.ensures.found c.in-Err.fault (fault_on _ _ _ c.in-Err.fault c.in-Err.ensures.answer.0))
