use Rattle.cf_session.specs.Apply.{run_at}
use Rattle.cf_session.proofs.Naming.{writes_named}
use Rattle.cf_session.proofs.namer.SessionNamer.write.Goals as goal

pub returns-clause-step : goal.returns-clause-step
returns-clause-step g c =
    let a = c.in-Ok.ensures.step.0 in
    writes_named (run_at c.args.self.now (g.H.Manager.state c.args.heap.now)) (run_at c.apply_ref.new.self (g.H.Manager.state c.apply_ref.new.heap)) a.reply
    c.args.id c.args.at c.args.bytes.now c.requires.within a.turn.step
