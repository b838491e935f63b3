use Rattle.std.proofs.Common.{arith, refl}
use Rattle.sliced_heap.specs.Heap.{sliced_seen}
use Rattle.sliced_heap.proofs.FigureLemmas.{figures_are, home_few}
use Rattle.sliced_heap.proofs.open_heap.OpenHeap.figures_of.Goals as goal

pub overflow_add-result : goal.overflow_add-result
overflow_add-result c =
    let few = home_few (sliced_seen c.args.self.now) c.requires.kept c.args.c in
    let a = c.len.ensures.len in let b = c.len-not_full.ensures.len in
    omega arith

pub returns : goal.returns
returns c =
    let a = c.len.ensures.len in let b = c.len-not_full.ensures.len in
    figures_are (sliced_seen c.args.self.now) c.requires.kept c.args.c c.requires.class _ _ _ _ _ c.slot_words.ensures.value c.slots.ensures.value refl (omega arith) b
