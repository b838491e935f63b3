use Rattle.std.proofs.Common.{sym}
use Rattle.tag_heap.proofs.Preserved.{has_place, no_place, rules}
use Rattle.tag_heap.proofs.ReadLemmas.{object}
use Rattle.tag_heap.proofs.open_heap.OpenHeap.resize_fault.Goals as goal

pub returns-in-Some-clause-step : goal.returns-in-Some-clause-step
returns-in-Some-clause-step g c = rw (← c.self.view_is) (λ bytes. record {
  object = object _ c.self.invariant c.args.h.0 c.in-Some.field-0 (sym c.in-Some.ensures.found);
  found = has_place _ c.self.invariant c.args.h.0 c.in-Some.field-0 (sym c.in-Some.ensures.found);
  blocks = g.met.B.FitPolicy.tiled;
})

pub returns-in-Some-clause-rules : goal.returns-in-Some-clause-rules
returns-in-Some-clause-rules g c = rw (← c.self.view_is) (rules _ c.self.invariant g.met.B.FitPolicy.tiled)

pub returns-in-None-clause-step : goal.returns-in-None-clause-step
returns-in-None-clause-step g c = rw (← c.self.view_is) (λ bytes. no_place _ c.self.invariant c.args.h.0 (sym c.in-None.ensures.found))

pub returns-in-None-clause-rules : goal.returns-in-None-clause-rules
returns-in-None-clause-rules g c = rw (← c.self.view_is) (rules _ c.self.invariant g.met.B.FitPolicy.tiled)
