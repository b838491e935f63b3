use Rattle.script_loop.proofs.OneManager.{opens_going}
use Rattle.script_loop.proofs.one_manager.SessionModeHandler.open.Goals as goal

pub returns-in_err-open_heap-clause-plan : goal.returns-in_err-open_heap-clause-plan
returns-in_err-open_heap-clause-plan g c = λ i. (c.in_err-open_heap.ensures.err.kind i, c.in_err-open_heap.ensures.promise i)

pub returns-clause-going : goal.returns-clause-going
returns-clause-going g c = opens_going c.args.settings.now _
    (g.H.Manager.state c.args.heap.now) _ c.requires c.in_ok-open_heap.ensures.ok c.in_ok-open_heap.ensures.rules

pub returns-clause-plan : goal.returns-clause-plan
returns-clause-plan g c = λ i. ((c.in_ok-open_heap.ensures.ok.whole i).kind, c.in_ok-open_heap.ensures.promise i)

pub returns-in_err-put_all-clause-plan : goal.returns-in_err-put_all-clause-plan
returns-in_err-put_all-clause-plan g c = λ i. ((c.in_ok-open_heap.ensures.ok.whole i).kind, c.in_ok-open_heap.ensures.promise i)
