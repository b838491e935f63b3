use Rattle.std.proofs.Common.{arith, sym, ◌∙◌}
use Rattle.paged_heap.proofs.FigureLemmas.{free_is, used_is}
use Rattle.paged_heap.specs.Heap.{seen}
use Rattle.paged_heap.proofs.open_heap.OpenHeap.free_pages.Goals as goal

pub returns-clause-value : goal.returns-clause-value
returns-clause-value g c = c.left.ensures.len ∙ sym (free_is (seen g.A.Mapping.kind c.args.self.now) c.requires.kept)

pub returns-clause-few : goal.returns-clause-few
returns-clause-few g c = (let e = used_is (seen g.A.Mapping.kind c.args.self.now) c.requires.kept in let l = c.left.ensures.len in omega arith)
