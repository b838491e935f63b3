use Rattle.std.proofs.Common.{ap}
use Rattle.cf_model.specs.State.{HeapState}
use Rattle.cf_session.specs.Apply.{run_at}
use Rattle.top_call.proofs.Outcomes.{saved_ends}
use Rattle.top_call.proofs.images.save_on.Goals as goal

pub save_script-requires-clause-moving : goal.save_script-requires-clause-moving
save_script-requires-clause-moving g c = ap (λ (h : HeapState). h.kind) c.requires

pub save_script-requires-clause-closed : goal.save_script-requires-clause-closed
save_script-requires-clause-closed g c = ap (λ (h : HeapState). h.is_open) c.requires

pub returns : goal.returns
returns g c = λ managers.
    let by = c.save_script.ensures in
    saved_ends _ _ _ _ managers c.save_script.result c.in-Ok.session (g.H.Manager.state c.args.heap.now)
    (run_at c.save_script.new.mode_handler.mode_handler (g.H.Manager.state c.save_script.new.heap)) c.in-Ok.ensures c.requires
    by.causes by.promise by.ends
