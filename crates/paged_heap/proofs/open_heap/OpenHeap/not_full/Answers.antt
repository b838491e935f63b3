use Rattle.std.proofs.Common.{sym, ◌∙◌}
use Rattle.paged_heap.proofs.FigureLemmas.{not_full_is}
use Rattle.paged_heap.specs.Heap.{seen}
use Rattle.paged_heap.proofs.open_heap.OpenHeap.not_full.Goals as goal

pub returns : goal.returns
returns g c = c.len.ensures.len ∙ sym (not_full_is (seen g.A.Mapping.kind c.args.self.now) c.requires.kept.kept c.args.c)
