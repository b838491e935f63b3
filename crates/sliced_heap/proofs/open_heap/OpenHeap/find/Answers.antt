use Rattle.std.proofs.Common.{arith, sym}
use Rattle.sliced_heap.specs.Heap.{sliced_seen}
use Rattle.sliced_heap.proofs.AccessLemmas.{head_from, head_to, lies, passes, unknown}
use Rattle.sliced_heap.proofs.open_heap.OpenHeap.find.Goals as goal
use Rattle.sliced_heap.proofs.open_heap.OpenHeap.find.Goals.{then-length-count-via-then-length-count}
use Rattle.sliced_heap.proofs.open_heap.OpenHeap.find.Goals.{then-length-count-via-else-length-count+then-length-count-2}

pub returns-in_default-clause-found : goal.returns-in_default-clause-found
returns-in_default-clause-found c = unknown (sliced_seen c.args.self.now) c.requires c.args.h.0 (sym c.in_default.ensures.found)

pub read_word-requires-clause-to : goal.read_word-requires-clause-to
read_word-requires-clause-to c =
    head_to (sliced_seen c.args.self.now) c.requires c.args.h.0 c.in-Some.place (sym c.in-Some.ensures.found) c.halves-halves.result c.halves-halves.ensures

pub read_word-requires-clause-from : goal.read_word-requires-clause-from
read_word-requires-clause-from c =
    head_from (sliced_seen c.args.self.now) c.requires c.args.h.0 c.in-Some.place (sym c.in-Some.ensures.found) c.halves-halves.result c.halves-halves.ensures

pub returns-then-length-count-clause-found : goal.returns-then-length-count-clause-found
returns-then-length-count-clause-found c =
    let v = c.read_word.ensures.value in
    let u = c.unpack-length.ensures.length in
    passes (sliced_seen c.args.self.now) c.requires c.args.h.0 c.in-Some.place (sym c.in-Some.ensures.found) c.halves-halves.result c.halves-halves.ensures
    c.unpack-length.result.length (omega arith) c.args.at c.args.count
    (elim c.then-length-count.branch [
      | then-length-count-via-then-length-count w ↦ (let lt = w.if-length-count.true in omega arith)
      | then-length-count-via-else-length-count+then-length-count-2 w ↦ (let le = w.if-length-count.false in let lt = w.if-length-count-2.true in omega arith)
    ])

pub returns-clause-found : goal.returns-clause-found
returns-clause-found c =
    let v = c.read_word.ensures.value in
    let u = c.unpack-length.ensures.length in
    let a = c.if-length-count.false in let b = c.if-length-count-2.false in
    lies (sliced_seen c.args.self.now) c.requires c.args.h.0 c.in-Some.place (sym c.in-Some.ensures.found) c.halves-halves.result c.halves-halves.ensures
    c.unpack-length.result.length (omega arith) c.args.at c.args.count (omega arith)
