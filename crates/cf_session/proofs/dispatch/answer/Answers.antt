use Rattle.std.proofs.Common.{ap, refl}
use Rattle.run_model.specs.Terms.{Block, Bound, Free, Malloc, owned_command, Peek, Place, Read, Resize, Steps, Write}
use Rattle.cf_session.proofs.Reporting.{lacking, has_room, put_faults, reported_walk, reported_frag, shown_step}
use Rattle.cf_session.proofs.dispatch.answer.Goals as goal

pub returns-in-Malloc-clause-step : goal.returns-in-Malloc-clause-step
returns-in-Malloc-clause-step g c = shown_step _ _ _ (Malloc _ _) c.args.lead.now _ _ _ _
    (ap owned_command c.in-Malloc.is) c.requires.going c.malloc.ensures.step
    c.put_short_line.ensures

pub returns-in-Free-clause-step : goal.returns-in-Free-clause-step
returns-in-Free-clause-step g c = shown_step _ _ _ (Free _) c.args.lead.now _ _ _ _ (ap owned_command c.in-Free.is) c.requires.going c.free.ensures.step
    c.put_short_line-in-Free.ensures

pub returns-in-Write-clause-step : goal.returns-in-Write-clause-step
returns-in-Write-clause-step g c = shown_step _ _ _ (Write _ _ _) c.args.lead.now _ _ _ _
    (ap owned_command c.in-Write.is) c.requires.going c.write.ensures.step
    c.put_short_line-in-Write.ensures

pub returns-in-Resize-clause-step : goal.returns-in-Resize-clause-step
returns-in-Resize-clause-step g c = shown_step _ _ _ (Resize _ _) c.args.lead.now _ _ _ _
    (ap owned_command c.in-Resize.is) c.requires.going c.resize.ensures.step
    c.put_short_line-in-Resize.ensures

pub returns-in-Bound-clause-step : goal.returns-in-Bound-clause-step
returns-in-Bound-clause-step g c = shown_step _ _ _ (Bound _ _) c.args.lead.now _ _ _ _
    (ap owned_command c.in-Bound.is) c.requires.going c.set_bound.ensures.step
    c.put_short_line-in-Bound.ensures

pub put_reply-requires-clause-room : goal.put_reply-requires-clause-room
put_reply-requires-clause-room g c = has_room c.args.lead.now _ _ _ c.place.ensures

pub returns-in-Place-clause-step : goal.returns-in-Place-clause-step
returns-in-Place-clause-step g c = shown_step _ _ _ (Place _) c.args.lead.now _ _ _ _ (ap owned_command c.in-Place.is) c.requires.going (refl, refl)
    (c.put_reply.ensures _ c.place.ensures)

pub put_reply-requires-in-Block-clause-room : goal.put_reply-requires-in-Block-clause-room
put_reply-requires-in-Block-clause-room g c = has_room c.args.lead.now _ _ _ c.block.ensures

pub returns-in-Block-clause-step : goal.returns-in-Block-clause-step
returns-in-Block-clause-step g c = shown_step _ _ _ (Block _ _) c.args.lead.now _ _ _ _ (ap owned_command c.in-Block.is) c.requires.going (refl, refl)
    (c.put_reply-in-Block.ensures _ c.block.ensures)

pub put_reply-requires-in-Peek-clause-room : goal.put_reply-requires-in-Peek-clause-room
put_reply-requires-in-Peek-clause-room g c = has_room c.args.lead.now _ _ _ c.peek.ensures

pub returns-in-Peek-clause-step : goal.returns-in-Peek-clause-step
returns-in-Peek-clause-step g c = shown_step _ _ _ (Peek _) c.args.lead.now _ _ _ _ (ap owned_command c.in-Peek.is) c.requires.going (refl, refl)
    (c.put_reply-in-Peek.ensures _ c.peek.ensures)

pub put_reply-requires-in-Steps-clause-room : goal.put_reply-requires-in-Steps-clause-room
put_reply-requires-in-Steps-clause-room g c = has_room c.args.lead.now _ _ _ c.build_steps_line.ensures

pub returns-in-Steps-clause-step : goal.returns-in-Steps-clause-step
returns-in-Steps-clause-step g c = shown_step _ _ _ Steps c.args.lead.now _ _ _ _ (ap owned_command c.in-Steps.is) c.requires.going (refl, refl)
    (c.put_reply-in-Steps.ensures _ c.build_steps_line.ensures)

pub returns-in-Read-clause-step : goal.returns-in-Read-clause-step
returns-in-Read-clause-step g c = shown_step _ _ _ (Read _ _ _) c.args.lead.now _ _ _ _ (ap owned_command c.in-Read.is) c.requires.going (refl, refl)
    c.read.ensures

pub returns-in-Walk-clause-step : goal.returns-in-Walk-clause-step
returns-in-Walk-clause-step g c = reported_walk _ c.args.lead.now _ _ _ c.walk_lines.result c.ended.result (ap owned_command c.in-Walk.is)
    c.requires.going c.walk_lines.ensures.puts c.ended.ensures

pub returns-in-Frag-clause-step : goal.returns-in-Frag-clause-step
returns-in-Frag-clause-step g c = reported_frag _ c.args.lead.now _ _ _ c.frag_line.result c.ended-in-Frag.result (ap owned_command c.in-Frag.is)
    c.requires.going c.frag_line.ensures.puts c.ended-in-Frag.ensures

pub returns-in_default-clause-step : goal.returns-in_default-clause-step
returns-in_default-clause-step g c =
    let d = c.in_default in
    shown_step _ _ _ (owned_command c.args.c) c.args.lead.now _ _ _ _ refl c.requires.going
    (lacking _ c.args.c d.not-Malloc d.not-Free d.not-Write d.not-Read d.not-Place d.not-Block d.not-Peek d.not-Walk d.not-Frag d.not-Steps d.not-Bound
    d.not-Resize) c.put_short_line-in_default.ensures

pub returns-in-Place-clause-sink : goal.returns-in-Place-clause-sink
returns-in-Place-clause-sink g c = put_faults _ c.args.lead.now _ _ _ (c.put_reply.ensures _ c.place.ensures)

pub returns-in-Block-clause-sink : goal.returns-in-Block-clause-sink
returns-in-Block-clause-sink g c = put_faults _ c.args.lead.now _ _ _ (c.put_reply-in-Block.ensures _ c.block.ensures)

pub returns-in-Peek-clause-sink : goal.returns-in-Peek-clause-sink
returns-in-Peek-clause-sink g c = put_faults _ c.args.lead.now _ _ _ (c.put_reply-in-Peek.ensures _ c.peek.ensures)

pub returns-in-Steps-clause-sink : goal.returns-in-Steps-clause-sink
returns-in-Steps-clause-sink g c = put_faults _ c.args.lead.now _ _ _ (c.put_reply-in-Steps.ensures _ c.build_steps_line.ensures)
