use Rattle.std.proofs.Common.{length}
use Rattle.tag_heap.proofs.Preserved.{rules}
use Rattle.tag_heap.proofs.PartLemmas.{read_part}
use Rattle.tag_heap.proofs.open_heap.OpenHeap.read.Goals as goal

pub returns-in_err-place-clause-rules : goal.returns-in_err-place-clause-rules
returns-in_err-place-clause-rules g c = rw (← c.self.view_is) (rules _ c.self.invariant g.met.B.FitPolicy.tiled)

pub returns-then-len-eq0-clause-rules : goal.returns-then-len-eq0-clause-rules
returns-then-len-eq0-clause-rules g c = rw (← c.self.view_is) (rules _ c.self.invariant g.met.B.FitPolicy.tiled)

pub returns-clause-answer : goal.returns-clause-answer
returns-clause-answer g c =
    let l = rw (← c.self.view_is) at c.in_ok-place.ensures.found in
    rw (← c.self.view_is) (read_part _ c.self.invariant c.args.h.0 c.args.at (length c.args.out.now) c.in_ok-place.place l g.B.FitPolicy.kind
    c.read_bytes.new.out c.read_bytes.auto.out c.read_bytes.ensures.value)

pub returns-clause-rules : goal.returns-clause-rules
returns-clause-rules g c = rw (← c.self.view_is) (rules _ c.self.invariant g.met.B.FitPolicy.tiled)
