use Rattle.std.proofs.Common.{ap}
use Rattle.run_model.specs.Terms.{HeapState, SessionState}
use Rattle.cf_session.specs.Apply.{run_at}
use Rattle.top_call.proofs.Outcomes.{loaded_ends}
use Rattle.top_call.proofs.images.load_on.Goals as goal

pub load_script-requires-clause-moving : goal.load_script-requires-clause-moving
load_script-requires-clause-moving g c = ap (λ (h : HeapState). h.kind) c.requires

pub load_script-requires-clause-idle : goal.load_script-requires-clause-idle
load_script-requires-clause-idle g c = ap (λ (s : SessionState). s.ids) c.in-Ok.ensures

pub returns : goal.returns
returns g c = λ managers.
    let by = c.load_script.ensures in
    loaded_ends _ _ _ _ managers c.load_script.result c.in-Ok.session (g.H.Manager.state c.args.heap.now)
    (run_at c.load_script.new.session (g.H.Manager.state c.load_script.new.heap)) c.in-Ok.ensures c.requires
    by.source by.sink by.ends
