use Rattle.std.proofs.Common.{sym, ◌∙◌, arith}
use Rattle.paged_heap.proofs.BoundLemmas.{class_found, class_unknown}
use Rattle.paged_heap.specs.Heap.{seen}
use Rattle.paged_heap.proofs.open_heap.OpenHeap.class_with.Goals as goal

pub returns-then-slot_words-words-clause-found : goal.returns-then-slot_words-words-clause-found
returns-then-slot_words-words-clause-found g c =
    let lt = c.loop-c-test.true in let e = c.len-c-end.ensures in
    class_found (seen g.A.Mapping.kind c.args.self.now) c.requires.kept c.args.words c.loop-c.c (omega arith) c.loop-c.invariant
    (sym c.slot_words.ensures.value ∙ c.if-slot_words-words.true)

pub returns-clause-found : goal.returns-clause-found
returns-clause-found g c =
    let e = c.len-c-end.ensures in
    class_unknown (seen g.A.Mapping.kind c.args.self.now) c.requires.kept c.args.words
    (λ j l. c.loop-c.invariant j (let lt = c.loop-c-test.false in omega arith))
