use Rattle.std.proofs.Common.{arith}
use Rattle.sliced_heap.specs.Heap.{sliced_seen}
use Rattle.sliced_heap.proofs.FigureLemmas.{taken_more}
use Rattle.sliced_heap.proofs.open_heap.OpenHeap.taken_with.Goals as goal

pub overflow_add-result : goal.overflow_add-result
overflow_add-result c =
    let m = taken_more (sliced_seen c.args.self.now) c.requires.kept c.slot_words.result c.slot_words.ensures.within in
    let w = c.from.ensures in
    omega arith
