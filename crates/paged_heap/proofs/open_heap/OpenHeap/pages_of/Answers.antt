use Rattle.std.proofs.Common.{arith}
use Rattle.paged_heap.proofs.FigureLemmas.{home_few, home_is}
use Rattle.paged_heap.specs.Heap.{seen}
use Rattle.paged_heap.proofs.open_heap.OpenHeap.pages_of.Goals as goal

pub overflow_add-result : goal.overflow_add-result
overflow_add-result g c =
    let few = home_few (seen g.A.Mapping.kind c.args.self.now) c.requires.kept.kept c.args.c in
    let a = c.len.ensures.len in let b = c.len-2.ensures.len in
    omega arith

pub returns : goal.returns
returns g c =
    let e = home_is (seen g.A.Mapping.kind c.args.self.now) c.requires.kept.kept c.args.c in
    let a = c.len.ensures.len in let b = c.len-2.ensures.len in
    omega arith
