use Rattle.cf_base.specs.Settings.{Profile}
use Rattle.cf_session.specs.Apply.{run_at}
use Rattle.run_model.specs.Sessions.{IsGoing}
use Rattle.heap_tests.specs.Ready.{IsReady}
use Rattle.heap_tests.proofs.tests.saved.do_commands.Given as goal

abbrev pub invariant-commands : goal.invariant-commands
invariant-commands g l = record {
  going : IsGoing (run_at l.session (g.H.Manager.state l.heap));
  ready : (p : Profile) → IsReady p (run_at l.fn.session (g.H.Manager.state l.fn.heap)) → IsReady p (run_at l.session (g.H.Manager.state l.heap));
}
