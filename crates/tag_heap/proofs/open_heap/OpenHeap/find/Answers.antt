use Rattle.std.proofs.Common.{arith, sym, ◌+◌}
use Rattle.tag_heap.proofs.Preserved.{no_place, used_at}
use Rattle.tag_heap.proofs.ReadLemmas.{lies_there, passes}
use Rattle.page_model.proofs.CallerLemmas.{bytes_long}
use Rattle.tag_heap.proofs.open_heap.OpenHeap.find.Goals as goal
use Rattle.tag_heap.proofs.open_heap.OpenHeap.find.Goals.{then-length-count-via-then-length-count}
use Rattle.tag_heap.proofs.open_heap.OpenHeap.find.Goals.{then-length-count-via-else-length-count+then-length-count-2}

pub returns-in_default-clause-found : goal.returns-in_default-clause-found
returns-in_default-clause-found g c = rw (← c.self.view_is) (no_place _ c.self.invariant c.args.h.0 (sym c.in_default.ensures.found))

pub tag_of-requires : goal.tag_of-requires
tag_of-requires g c = record { used = used_at _ c.self.invariant c.args.h.0 c.in-Some.place (sym c.in-Some.ensures.found) }

pub returns-then-length-count-clause-found : goal.returns-then-length-count-clause-found
returns-then-length-count-clause-found g c = rw (← c.self.view_is) (
    let long = bytes_long c.self.inside.blocks.words (c.in-Some.place + 1) in
    let tag = c.tag_of.ensures.value in
    let e = c.unpack-length.ensures.length in
    passes _ c.self.invariant c.args.h.0 c.in-Some.place (sym c.in-Some.ensures.found) g.B.FitPolicy.kind c.args.at c.args.count
    (elim c.then-length-count.branch [
      | then-length-count-via-then-length-count w ↦ (let lt = w.if-length-count.true in omega arith)
      | then-length-count-via-else-length-count+then-length-count-2 w ↦ (let le = w.if-length-count.false in let lt = w.if-length-count-2.true in omega arith)
    ]))

pub returns-clause-found : goal.returns-clause-found
returns-clause-found g c = rw (← c.self.view_is) (
    let long = bytes_long c.self.inside.blocks.words (c.in-Some.place + 1) in
    let tag = c.tag_of.ensures.value in
    let e = c.unpack-length.ensures.length in
    let a = c.if-length-count.false in let b = c.if-length-count-2.false in
    lies_there _ c.self.invariant c.args.h.0 c.in-Some.place (sym c.in-Some.ensures.found) c.args.at c.args.count (omega arith))
