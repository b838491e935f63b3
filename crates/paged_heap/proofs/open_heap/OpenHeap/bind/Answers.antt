use Rattle.step_ledger.proofs.CallerLemmas.{rose_both}
use Rattle.paged_heap.proofs.open_heap.OpenHeap.bind.Goals as goal

pub returns-clause-steps : goal.returns-clause-steps
returns-clause-steps g c = rose_both _ _ _ _ _ c.in-Some.ensures.steps c.write.ensures.steps
