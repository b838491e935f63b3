use Rattle.cf_session.specs.Apply.{run_at}
use Rattle.cf_session.proofs.Naming.{makes_named}
use Rattle.cf_session.proofs.namer.SessionNamer.malloc.Goals as goal

pub returns-clause-step : goal.returns-clause-step
returns-clause-step g c =
    let a = c.in-Ok.ensures.step.0 in
    makes_named (run_at c.args.self.now (g.H.Manager.state c.args.heap.now)) (run_at c.apply_ref.new.self (g.H.Manager.state c.apply_ref.new.heap)) a.reply
    c.args.id c.args.bytes c.is_good.result c.in-Ok.outcome c.requires.fresh a.turn.step c.is_good.ensures.good c.is_good.ensures.other
    c.in-Ok.ensures.step.1
