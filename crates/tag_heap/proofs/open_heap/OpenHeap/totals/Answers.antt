use Rattle.tag_heap.proofs.FigureLemmas.{totals_described}
use Rattle.tag_heap.proofs.open_heap.OpenHeap.totals.Goals as goal

pub returns-clause-value : goal.returns-clause-value
returns-clause-value g c = rw (
  ← c.self.view_is,
  c.live.ensures.count,
  c.used.ensures,
  c.free.ensures,
  c.largest.ensures.value,
  c.from.ensures,
  c.from-2.ensures,
) (
    totals_described g.B.FitPolicy.kind _ c.self.invariant)
