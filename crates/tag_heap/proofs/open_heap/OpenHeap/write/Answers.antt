use Rattle.std.proofs.Common.{arith}
use Rattle.tag_heap.proofs.Preserved.{rules}
use Rattle.tag_heap.proofs.WriteLemmas.{writes, wrote_nothing, wrote_rules, wrote_valid}
use Rattle.tag_heap.proofs.open_heap.OpenHeap.write.Goals as goal

pub returns-in_err-place-clause-rules : goal.returns-in_err-place-clause-rules
returns-in_err-place-clause-rules g c = rw (← c.self.view_is) (rules _ c.self.invariant g.met.B.FitPolicy.tiled)

pub returns-then-len-eq0-clause-step : goal.returns-then-len-eq0-clause-step
returns-then-len-eq0-clause-step g c = rw (← c.self.view_is) (wrote_nothing g.B.FitPolicy.kind g.met.B.FitPolicy.tiled _ c.args.h.0 c.args.at c.in_ok-place.place
    c.args.bytes.now c.if-len-eq0.true (rw (← c.self.view_is) at c.in_ok-place.ensures.found))

pub returns-then-len-eq0-clause-rules : goal.returns-then-len-eq0-clause-rules
returns-then-len-eq0-clause-rules g c = rw (← c.self.view_is) (rules _ c.self.invariant g.met.B.FitPolicy.tiled)

pub invariant_of-self : goal.invariant_of-self
invariant_of-self g c =
    let l = rw (← c.self.view_is) at c.in_ok-place.ensures.found in
    wrote_valid _ c.self.invariant c.args.h.0 c.args.at c.in_ok-place.place c.args.bytes.now l (λ i. (let f = c.type_inv.bytes i in omega arith))
    _ c.write_bytes.ensures.blocks c.write_bytes.ensures.lists c.write_bytes.ensures.kept c.write_bytes.ensures.words

pub returns-clause-step : goal.returns-clause-step
returns-clause-step g c =
    let l = rw (← c.self.view_is) at c.in_ok-place.ensures.found in
    rw (← c.self.view_is) (writes _ c.self.invariant c.args.h.0 c.args.at c.in_ok-place.place c.args.bytes.now l
    (λ i. (let f = c.type_inv.bytes i in omega arith)) _ c.write_bytes.ensures.blocks c.write_bytes.ensures.lists c.write_bytes.ensures.kept c.write_bytes.ensures.words
    g.met.B.FitPolicy.tiled)

pub returns-clause-rules : goal.returns-clause-rules
returns-clause-rules g c =
    let l = rw (← c.self.view_is) at c.in_ok-place.ensures.found in
    wrote_rules _ c.self.invariant c.args.h.0 c.args.at c.in_ok-place.place c.args.bytes.now l (λ i. (let f = c.type_inv.bytes i in omega arith))
    _ c.write_bytes.ensures.blocks c.write_bytes.ensures.lists c.write_bytes.ensures.kept c.write_bytes.ensures.words g.met.B.FitPolicy.tiled
