use Rattle.std.proofs.Common.{length, arith}
use Rattle.paged_heap.specs.Heap.{seen}
use Rattle.paged_heap.proofs.LayoutFacts.{rules}
use Rattle.paged_heap.proofs.StepLemmas.{access_low}
use Rattle.paged_heap.proofs.manager.PagedHeapManager.write.Goals as goal

pub returns-clause-rules : goal.returns-clause-rules
returns-clause-rules g c = rules (seen g.A.Mapping.kind c.write.new.self) c.write.ensures.kept.kept

pub returns-clause-bound : goal.returns-clause-bound
returns-clause-bound g c =
    let a = c.write.ensures.steps in let l = access_low g.A.Mapping.kind c.args.at (length c.args.bytes.now) c.write.result in
    record { kept = a.kept; bound = omega (arith, a.bound, l) }
