use Rattle.large_objects.proofs.heap.LargeHeap.free.Goals as goal

pub returns-in-None-clause-kept : goal.returns-in-None-clause-kept
returns-in-None-clause-kept g c = c.length_of.ensures.kept
