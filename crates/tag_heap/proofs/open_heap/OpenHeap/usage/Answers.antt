use Rattle.std.proofs.Common.{ap}
use Rattle.cf_model.specs.Answers.{usage_of}
use Rattle.tag_heap.proofs.FigureLemmas.{totals_described}
use Rattle.tag_heap.proofs.open_heap.OpenHeap.usage.Goals as goal

pub returns : goal.returns
returns g c = rw (← c.self.view_is, c.from.ensures, c.from-2.ensures) (ap usage_of (totals_described g.B.FitPolicy.kind _ c.self.invariant))
