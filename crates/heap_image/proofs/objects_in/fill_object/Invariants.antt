use Rattle.std.proofs.Common.{◌≡◌, ◌-◌, ◌≤◌, ◌++◌, ℕ, List, length}
use Rattle.std.specs.Prelude.{replicate}
use Rattle.std.specs.FinMap as map
use Rattle.id_table.specs.Sessions.{run_at}
use Rattle.heap_image.specs.Feed.{TakesBytes, feed_of}
use Rattle.heap_image.specs.Heaps.{live_objects}
use Rattle.heap_image.specs.Stages.{LeadsTo}
use Rattle.heap_image.proofs.objects_in.fill_object.Given as goal

abbrev pub invariant-chunks : goal.invariant-chunks
invariant-chunks g l = record {
  within : l.done ≤ l.n;
  bytes : List ℕ;
  count : length bytes ≡ l.done;
  took : TakesBytes bytes (feed_of (g.S.Source.state l.initial.source)) (feed_of (g.S.Source.state l.source));
  leads : LeadsTo (run_at (g.N.Namer.state l.initial.names) (g.H.Manager.state l.initial.heap)) (run_at (g.N.Namer.state l.names) (g.H.Manager.state l.heap))
      (map.insert (live_objects (run_at (g.N.Namer.state l.initial.names) (g.H.Manager.state l.initial.heap))) l.id (bytes ++ replicate (l.n - l.done) 0));
  counts : g.N.Namer.state l.names ≡ g.N.Namer.state l.initial.names;
  same : (g.S.Source.state l.source).faults ≡ (g.S.Source.state l.initial.source).faults;
}

abbrev pub decreases-chunks : goal.decreases-chunks
decreases-chunks g l = l.n - l.done
