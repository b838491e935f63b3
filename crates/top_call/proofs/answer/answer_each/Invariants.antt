use Rattle.std.proofs.Common.{◌≡◌, map, length, [], is_some}
use Rattle.std.specs.List.{All}
use Rattle.cf_io.specs.Feeds.{WritesAll}
use Rattle.run_model.specs.Terms.{IsGoing, led, owned_command, Reply}
use Rattle.top_call.specs.Progress.{Swept}
use Rattle.top_call.specs.SideBySide.{zipped}
use Rattle.top_call.proofs.answer.answer_each.Given as goal

abbrev pub invariant-loop-i : goal.invariant-loop-i
invariant-loop-i g l = record {
  reply : Reply;
  swept : Swept (zipped l.initial.sessions.items (map (λ m. g.H.Manager.state m) l.initial.managers.items)) l.i (owned_command l.command) reply
      (zipped l.sessions.items (map (λ m. g.H.Manager.state m) l.managers.items));
  sessions : length l.sessions.items ≡ length l.initial.sessions.items;
  managers : length l.managers.items ≡ length l.initial.managers.items;
  going : All IsGoing (zipped l.sessions.items (map (λ m. g.H.Manager.state m) l.managers.items));
  kinds : map (λ m. (g.H.Manager.state m).kind) l.managers.items ≡ map (λ m. (g.H.Manager.state m).kind) l.initial.managers.items;
  promise : map (λ m. is_some (g.H.Manager.state m).order) l.managers.items ≡ map (λ m. is_some (g.H.Manager.state m).order) l.initial.managers.items;
  wrote : WritesAll (g.K.Sink.state l.initial.sink) (led [] reply) (g.K.Sink.state l.sink);
}
