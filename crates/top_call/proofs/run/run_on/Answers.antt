use Rattle.cf_session.specs.Apply.{run_at}
use Rattle.top_call.proofs.Outcomes.{own_ends}
use Rattle.top_call.proofs.run.run_on.Goals as goal

pub returns : goal.returns
returns g c = λ managers none.
    let by = c.play_script.ensures in
    own_ends c.args.kind _ _ _ _ c.play_script.result
    by.causes
    c.args.session.now (run_at c.play_script.new.mode_handler (g.H.Manager.state c.play_script.new.heap)) c.requires.fresh (g.H.Manager.state c.args.heap.now)
    c.requires.closed managers none by.plan by.outcome
