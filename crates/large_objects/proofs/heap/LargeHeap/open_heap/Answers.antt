use Rattle.std.proofs.Common.{ap, sym}
use Rattle.large_objects.specs.Large.{LargeState}
use Rattle.large_objects.proofs.Opening.{opened_empty, opened_parts, opened_valid}
use Rattle.large_objects.proofs.heap.LargeHeap.open_heap.Goals as goal

pub invariant_of-self-2 : goal.invariant_of-self-2
invariant_of-self-2 g c = opened_valid c.args.s.now (g.H.Manager.state c.self.inside.inner).kind (g.H.Manager.state c.open_heap.new.self) c.in-Ok.lengths.items
    (rw (ap (λ (s : LargeState). s.inner.kind) (sym c.self.view_is)) at c.requires.pages) c.requires.one c.in-Ok-open_heap.ensures.ok
    c.in-Ok-open_heap.ensures.rules
    c.in-Ok.ensures

pub returns-clause-ok : goal.returns-clause-ok
returns-clause-ok g c = opened_empty c.args.s.now (g.H.Manager.state c.self.inside.inner).kind (g.H.Manager.state c.open_heap.new.self) c.in-Ok.lengths.items
    (rw (ap (λ (s : LargeState). s.inner.kind) (sym c.self.view_is)) at c.requires.pages) c.requires.one c.in-Ok-open_heap.ensures.ok
    c.in-Ok-open_heap.ensures.rules
    c.in-Ok.ensures c.args.self.now (ap (λ (s : LargeState). s.inner.kind) (sym c.self.view_is))

pub returns-clause-parts : goal.returns-clause-parts
returns-clause-parts g c = opened_parts c.args.s.now (g.H.Manager.state c.self.inside.inner).kind (g.H.Manager.state c.open_heap.new.self) c.in-Ok.lengths.items
    (rw (ap (λ (s : LargeState). s.inner.kind) (sym c.self.view_is)) at c.requires.pages) c.requires.one c.in-Ok-open_heap.ensures.ok
    c.in-Ok-open_heap.ensures.rules
    c.in-Ok.ensures
