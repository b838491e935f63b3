use Rattle.std.proofs.Common.{◌≡◌, ◌≤◌, ◌+◌, ◌-◌, ◌++◌, List}
use Rattle.top_call.specs.Bench.{IsAppliedTo}
use Rattle.cf_model.specs.Ordered.{KeepsPromise}
use Rattle.cf_session.specs.Apply.{run_at}
use Rattle.script_reader.specs.Generated.{generated}
use Rattle.run_model.specs.Terms.{Command, IsGoing}
use Rattle.top_call.proofs.bench.apply_commands.Given as goal

-- The commands `done` were applied, and the generator still has the others. The heap has the kind that it began with, and promises an order if it did then.
abbrev pub invariant-loop-i : goal.invariant-loop-i
invariant-loop-i g l = record {
  done : List Command;
  given : generated l.seed l.count ≡ done ++ generated l.generator (l.count - l.i);
  applied : IsAppliedTo (run_at l.initial.session (g.H.Manager.state l.initial.heap)) done (run_at l.session (g.H.Manager.state l.heap))
      l.tally.ok l.tally.refused;
  going : IsGoing (run_at l.session (g.H.Manager.state l.heap));
  kind : (g.H.Manager.state l.heap).kind ≡ (g.H.Manager.state l.initial.heap).kind;
  promise : KeepsPromise (g.H.Manager.state l.initial.heap) (g.H.Manager.state l.heap);
  few : l.tally.ok + l.tally.refused ≤ l.i;
}
