use Rattle.std.proofs.Common.{◌≡◌}
use Rattle.script_loop.proofs.LoopTurn.{SoFar}
use Rattle.script_loop.specs.LoopTurn.{between, left_in}
use Rattle.script_loop.proofs.running.play_script.Given as goal

abbrev pub invariant-turns : goal.invariant-turns
invariant-turns g l = record {
  so_far : SoFar g.A.ModeHandler.semantics (g.A.ModeHandler.state l.initial.mode_handler l.initial.heap) (g.S.Source.state l.initial.source).rest
      (g.S.Source.state l.initial.source).given (g.K.Sink.state l.initial.sink).written
      (between l.script (g.A.ModeHandler.state l.mode_handler l.heap) (g.K.Sink.state l.sink).written (g.S.Source.state l.source).rest (g.S.Source.state l.source).given);
  source_same : (g.S.Source.state l.source).faults ≡ (g.S.Source.state l.initial.source).faults;
  sink_same : (g.K.Sink.state l.sink).faults ≡ (g.K.Sink.state l.initial.sink).faults;
}

abbrev pub decreases-turns : goal.decreases-turns
decreases-turns g l = left_in l.script
