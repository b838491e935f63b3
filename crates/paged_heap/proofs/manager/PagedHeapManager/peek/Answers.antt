use Rattle.std.proofs.Common.{ap}
use Rattle.paged_heap.specs.PagedState.{PagedState}
use Rattle.paged_heap.proofs.LayoutFacts.{rules_of}
use Rattle.paged_heap.proofs.manager.PagedHeapManager.peek.Goals as goal

pub returns-clause-rules : goal.returns-clause-rules
returns-clause-rules g c =
    rules_of g.A.Mapping.kind c.self.inside.inner c.self.invariant c.args.self.now.state (ap (λ (v : PagedState). v.state) c.self.view_is) c.requires
