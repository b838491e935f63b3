use Rattle.std.proofs.Common.{◌∙◌, length, sym, Ok}
use Rattle.script_laws.proofs.CallerLemmas.{read_fault, read_said, read_unknown}
use Rattle.page_model.specs.Held.{objects}
use Rattle.slice_model.specs.Runs.{Read}
use Rattle.slice_model.proofs.CallerLemmas.{call_on_map}
use Rattle.sliced_heap.specs.Shown.{plan_in, working_in}
use Rattle.slice_session.specs.SliceRun.{slice_run, sliced_calls}
use Rattle.slice_session.proofs.RunInvariant.{fault_on}
use Rattle.slice_session.proofs.commands.read.Goals as goal

pub returns-in_default-clause-text : goal.returns-in_default-clause-text
returns-in_default-clause-text c = c.push_short.ensures.text
    ∙ sym (read_unknown sliced_calls (slice_run c.args.ids.now c.args.heap.now) c.args.id c.args.at (length c.args.buffer.now) c.in_default.ensures.found)

-- the text of a read is the bytes in the map of objects, also of an object in motion
pub returns-in-Ok-clause-text : goal.returns-in-Ok-clause-text
returns-in-Ok-clause-text c =
    let (v, found, within, value, same) = (call_on_map (plan_in c.args.heap.now) c.requires.rules.plan (working_in c.args.heap.now)
    (Read (record { number = c.in-Some.h.0; from = c.args.at }) (length c.args.buffer.now) (Ok c.read.new.out)) (working_in c.args.heap.now)
    c.requires.rules.consistent c.in-Ok.ensures.step).0 in
    c.push_bytes.ensures.text
    ∙ sym (read_said sliced_calls (slice_run c.args.ids.now c.args.heap.now) c.args.id c.args.at (length c.args.buffer.now) c.in-Some.h.0
    c.in-Some.ensures.found v c.read.new.out found within value)

pub returns-in-Err-clause-text : goal.returns-in-Err-clause-text
returns-in-Err-clause-text c = c.push_short-in-Err.ensures.text ∙ c.fault_reply.ensures
    ∙ sym (read_fault sliced_calls (slice_run c.args.ids.now c.args.heap.now) c.args.id c.args.at (length c.args.buffer.now) c.in-Some.h.0
    c.in-Some.ensures.found c.in-Err.fault
    (fault_on (objects c.args.heap.now.held) c.in-Some.h.0 c.args.at (length c.args.buffer.now) c.in-Err.fault c.in-Err.ensures.step.0))
