use Rattle.std.proofs.Common.{ap}
use Rattle.paged_heap.specs.Bounds.{with_bounds}
use Rattle.paged_heap.specs.Heap.{seen}
use Rattle.paged_heap.specs.Layout.{state_at}
use Rattle.paged_heap.proofs.NewBounds.{bounded_kept, bounds_are}
use Rattle.paged_heap.proofs.open_heap.OpenHeap.set_bounds.Goals as goal

pub returns-clause-bounds : goal.returns-clause-bounds
returns-clause-bounds g c =
    let s = state_at g.A.Mapping.kind c.args.self.now in
    ap (λ bs. record (with_bounds s c.args.k) { bounds = bs }) (bounds_are (seen g.A.Mapping.kind c.args.self.now) c.requires.kept.kept c.args.k)

pub returns-clause-kept : goal.returns-clause-kept
returns-clause-kept g c = record {
  laid = c.requires.kept.laid;
  kept = bounded_kept (seen g.A.Mapping.kind c.args.self.now) c.requires.kept.kept c.args.k c.requires.least c.requires.most _ _ _ _ _ _ _ _ c.requires.few;
}
