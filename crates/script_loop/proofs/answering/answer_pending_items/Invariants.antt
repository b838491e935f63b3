use Rattle.std.proofs.Common.{◌≡◌, List, ℕ, [], false, length, None}
use Rattle.cf_io.specs.Feeds.{WritesAll}
use Rattle.script_loop.specs.AnswersSoFar.{Answered}
use Rattle.script_loop.specs.Progress.{IsReady, playing}
use Rattle.script_loop.proofs.answering.answer_pending_items.Given as goal

abbrev pub invariant-replies : goal.invariant-replies
invariant-replies g l = record {
  text : List ℕ;
  answered : Answered g.A.ModeHandler.semantics (playing l.initial.reader (g.A.ModeHandler.state l.initial.mode_handler l.initial.heap)) []
      (playing l.reader (g.A.ModeHandler.state l.mode_handler l.heap)) text false;
  ready : IsReady g.A.ModeHandler.semantics (playing l.reader (g.A.ModeHandler.state l.mode_handler l.heap));
  going : l.reader.stopped ≡ None;
  same_end : l.reader.ended ≡ l.initial.reader.ended;
  fed : l.reader.fed ≡ l.initial.reader.fed;
  wrote : WritesAll (g.K.Sink.state l.initial.sink) text (g.K.Sink.state l.sink);
}

abbrev pub decreases-replies : goal.decreases-replies
decreases-replies g l = length l.reader.kept
