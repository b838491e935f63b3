use Rattle.sliced_heap.specs.Heap.{sliced_seen}
use Rattle.sliced_heap.proofs.FigureLemmas.{has_class, words_found}
use Rattle.sliced_heap.proofs.open_heap.OpenHeap.slot_words.Goals as goal

pub unreachable-requires : goal.unreachable-requires
unreachable-requires c =
    has_class (sliced_seen c.args.self.now) c.requires c.args.h.0 c.in-Some.length c.in-Some.ensures.value c.in_default-class_of.ensures.found

pub returns-clause-value : goal.returns-clause-value
returns-clause-value c =
    words_found (sliced_seen c.args.self.now) c.requires c.args.h.0 c.in-Some.length c.in-Some.ensures.value c.in-Some-class_of.c c.in-Some-class_of.ensures.found
    c.slot_words.result c.slot_words.ensures.value
