use Rattle.cf_session.specs.Apply.{run_at}
use Rattle.script_reader.specs.Owned.{owned_command}
use Rattle.heap_tests.proofs.ReadyLemmas.{given_ready}
use Rattle.heap_tests.proofs.tests.images.do_command.Goals as goal

pub returns-clause-going : goal.returns-clause-going
returns-clause-going g c = c.in-Ok.ensures.going

pub returns-clause-ready : goal.returns-clause-ready
returns-clause-ready g c = given_ready (run_at c.args.session.now (g.H.Manager.state c.args.heap.now))
    (run_at c.apply_ref.new.self (g.H.Manager.state c.apply_ref.new.heap)) (owned_command c.args.command) c.in-Ok.ensures.step.0.reply
    c.in-Ok.ensures.step.0.turn.step
