use Rattle.std.proofs.Common.{arith}
use Rattle.run_model.specs.Terms.{empty, owned_command, said}
use Rattle.std.proofs.lemmas.List.{get_or_read}
use Rattle.quota_session.specs.Layout.{tasks_session}
use Rattle.quota_session.proofs.RunInvariant.{present_step}
use Rattle.quota_session.proofs.session.build_reply_present.Goals as goal

pub returns-clause-step : goal.returns-clause-step
returns-clause-step c =
    let r = c.args.records.now in
    let x = c.index_mut-ids.result.now in
    let here = get_or_read r.ids.items r.present x (omega (arith, c.requires.sixteen.ids, c.requires.sixteen.present)) c.index_mut-ids.ensures.value empty in
    present_step (tasks_session r) c.args.heap.now c.build_reply_task.new.heap x c.build_reply_task.new.ids (owned_command c.args.c) (said c.build_reply_task.new.line) here
    c.requires.own c.build_reply_task.ensures.speaks.turn
