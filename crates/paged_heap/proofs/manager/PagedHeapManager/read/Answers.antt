use Rattle.std.proofs.Common.{length, ap, arith}
use Rattle.paged_heap.specs.PagedState.{PagedState}
use Rattle.paged_heap.proofs.LayoutFacts.{rules_of}
use Rattle.paged_heap.proofs.StepLemmas.{access_low}
use Rattle.paged_heap.proofs.manager.PagedHeapManager.read.Goals as goal

pub returns-clause-rules : goal.returns-clause-rules
returns-clause-rules g c =
    rules_of g.A.Mapping.kind c.self.inside.inner c.self.invariant c.args.self.now.state (ap (λ (v : PagedState). v.state) c.self.view_is) c.requires.open

pub returns-clause-bound : goal.returns-clause-bound
returns-clause-bound g c =
    let a = c.read.ensures.steps in let l = access_low g.A.Mapping.kind c.args.at (length c.args.out.now) c.read.result in
    record { kept = a.kept; bound = omega (arith, a.bound, l) }
