use Rattle.std.proofs.Common.{◌≡◌, ◌≤◌, ◌+◌, ◌-◌, List, ℕ, false, length, take}
use Rattle.cf_io.specs.Feeds.{WritesAll}
use Rattle.script_loop.specs.AnswersSoFar.{Answered, IsWaiting}
use Rattle.script_loop.specs.Progress.{IsReady, playing}
use Rattle.script_loop.proofs.answering.answer_chunk.Given as goal

abbrev pub invariant-feeds : goal.invariant-feeds
invariant-feeds g l = record {
  text : List ℕ;
  answered : Answered g.A.ModeHandler.semantics (playing l.initial.reader (g.A.ModeHandler.state l.initial.mode_handler l.initial.heap)) (take l.at l.chunk)
      (playing l.reader (g.A.ModeHandler.state l.mode_handler l.heap)) text false;
  ready : IsReady g.A.ModeHandler.semantics (playing l.reader (g.A.ModeHandler.state l.mode_handler l.heap));
  waiting : IsWaiting l.reader;
  same_end : l.reader.ended ≡ false;
  fed : l.reader.fed ≡ l.initial.reader.fed + l.at;
  within : l.at ≤ length l.chunk;
  wrote : WritesAll (g.K.Sink.state l.initial.sink) text (g.K.Sink.state l.sink);
}

abbrev pub decreases-feeds : goal.decreases-feeds
decreases-feeds g l = length l.chunk - l.at
