use Rattle.std.proofs.Common.{◌-◌, ◌≡◌, Some}
use Rattle.std.specs.FinMap as map
use Rattle.top_call.proofs.PrintLemmas.{WroteTo}
use Rattle.page_model.specs.Held.{Placed}
use Rattle.top_call.proofs.image_script.put_writes.Given as goal

abbrev pub invariant-chunks : goal.invariant-chunks
invariant-chunks g l = record {
  came : (x : Placed) → map.get (g.H.Manager.state l.heap).held l.h.0 ≡ Some x
      → WroteTo l.id x.bytes (g.K.Sink.state l.initial.out) (g.K.Sink.state l.out) l.at;
}

abbrev pub decreases-chunks : goal.decreases-chunks
decreases-chunks g l = l.n - l.at
