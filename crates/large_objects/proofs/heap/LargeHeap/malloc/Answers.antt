use Rattle.large_objects.proofs.heap.LargeHeap.malloc.Goals as goal

pub returns-in-Some-clause-kept : goal.returns-in-Some-clause-kept
returns-in-Some-clause-kept g c = c.refusal.ensures.kept
