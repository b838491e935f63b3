use Rattle.std.proofs.Common.{arith}
use Rattle.std.proofs.lemmas.Grind.{common_steps}
use Rattle.cf_session.specs.Records.{session_of}
use Rattle.cf_session.proofs.Reporting.{shown_bytes, shown_fault, shown_named}
use Rattle.cf_session.proofs.queries.read.Goals as goal

pub returns-in-Ok : goal.returns-in-Ok
returns-in-Ok g c = shown_named (session_of c.args.records.now) (g.H.Manager.state c.args.heap.now) c.args.id c.in-Some.h.0 c.args.at _ c.args.len
    _ _ _ _ c.in-Some.ensures.found
    (shown_bytes _ _ _ c.read.new.out c.args.lead.now _ _ _ c.put_all.result c.ended.result c.in-Ok.ensures.answer c.spell_bytes-n.ensures.text
    c.put_all.ensures c.ended.ensures)
    (grind (arith, common_steps, c.requires.few, c.requires.buffer))

pub returns-in-Err : goal.returns-in-Err
returns-in-Err g c = shown_named (session_of c.args.records.now) (g.H.Manager.state c.args.heap.now) c.args.id c.in-Some.h.0 c.args.at _ c.args.len
    _ _ _ _ c.in-Some.ensures.found
    (shown_fault _ _ _ c.in-Err.fault c.fault_reply.result c.args.lead.now _ _ c.put_short_line-in-Err.result c.in-Err.ensures.answer.0 c.fault_reply.ensures
    c.put_short_line-in-Err.ensures)
    (grind (arith, common_steps, c.requires.few, c.requires.buffer))
