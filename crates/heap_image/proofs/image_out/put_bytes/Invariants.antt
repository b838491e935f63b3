use Rattle.std.proofs.Common.{◌-◌, ◌≡◌, ◌≤◌, Some, take}
use Rattle.std.specs.FinMap as map
use Rattle.cf_io.specs.Feeds.{WritesAll}
use Rattle.page_model.specs.Held.{Placed}
use Rattle.heap_image.proofs.image_out.put_bytes.Given as goal

abbrev pub invariant-chunks : goal.invariant-chunks
invariant-chunks g l = record {
  within : l.at ≤ l.n;
  written : (x : Placed) → map.get (g.H.Manager.state l.heap).held l.h.0 ≡ Some x
      → WritesAll (g.K.Sink.state l.initial.out) (take l.at x.bytes) (g.K.Sink.state l.out);
}

abbrev pub decreases-chunks : goal.decreases-chunks
decreases-chunks g l = l.n - l.at
