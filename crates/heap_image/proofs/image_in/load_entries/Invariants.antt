use Rattle.std.proofs.Common.{◌≡◌, ◌+◌, ◌-◌, ◌*◌, ◌≤◌, ◌^◌, ℕ, None}
use Rattle.std.specs.Prelude.{nat_lt}
use Rattle.std.specs.FinMap as map
use Rattle.id_table.specs.Sessions.{run_at}
use Rattle.heap_image.specs.Decoded.{at_first, entries_decoded}
use Rattle.heap_image.specs.Entries.{reached_in}
use Rattle.heap_image.specs.Counts.{after_mallocs}
use Rattle.heap_image.specs.Feed.{feed_of}
use Rattle.heap_image.specs.Heaps.{live_objects}
use Rattle.heap_image.specs.Load.{IsLoading}
use Rattle.heap_image.specs.Stages.{WholeFields}
use Rattle.heap_image.proofs.image_in.load_entries.Given as goal

abbrev pub invariant-entries : goal.invariant-entries
invariant-entries g l = record {
  loading : IsLoading (run_at (g.N.Namer.state l.names) (g.H.Manager.state l.heap));
  profile : (g.H.Manager.state l.heap).profile ≡ (g.H.Manager.state l.initial.heap).profile;
  passed : WholeFields (entries_decoded (g.H.Manager.state l.initial.heap).profile l.count at_first) (feed_of (g.S.Source.state l.initial.source))
      (feed_of (g.S.Source.state l.source))
      (entries_decoded (g.H.Manager.state l.initial.heap).profile (l.count - l.i) (reached_in (run_at (g.N.Namer.state l.names) (g.H.Manager.state l.heap)) l.next l.at));
  fresh : (id : ℕ) → l.next ≤ id → map.get (live_objects (run_at (g.N.Namer.state l.names) (g.H.Manager.state l.heap))) id ≡ None;
  count : map.len (live_objects (run_at (g.N.Namer.state l.names) (g.H.Manager.state l.heap))) ≡ l.i;
  counts : g.N.Namer.state l.names ≡ after_mallocs (g.N.Namer.state l.initial.names) (nat_lt 0 l.i) (g.N.Namer.state l.names).ids;
  at : l.at ≤ 20 + l.i * 2 ^ 33;
  same : (g.S.Source.state l.source).faults ≡ (g.S.Source.state l.initial.source).faults;
}
