use Rattle.std.proofs.Common.{map, take, []}
use Rattle.cf_io.specs.Feeds.{WritesAll}
use Rattle.run_model.specs.Texts.{led}
use Rattle.top_call.specs.SideBySide.{opened_reply}
use Rattle.top_call.proofs.open_reply.put_opened.Given as goal

abbrev pub invariant-loop-i : goal.invariant-loop-i
invariant-loop-i g l = record {
  wrote : WritesAll (g.K.Sink.state l.initial.sink) (led [] (opened_reply (take l.i (map (λ m. (g.H.Manager.state m).kind) l.managers.items))))
      (g.K.Sink.state l.sink);
}
