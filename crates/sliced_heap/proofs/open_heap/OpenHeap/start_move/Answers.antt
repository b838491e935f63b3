use Rattle.sliced_heap.proofs.open_heap.OpenHeap.start_move.Goals as goal

pub read-requires : goal.read-requires
read-requires c = record { within = c.requires.within c.filler-from.result c.filler-from.ensures.filler }
