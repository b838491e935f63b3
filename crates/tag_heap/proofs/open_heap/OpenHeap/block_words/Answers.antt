use Rattle.std.proofs.Common.{sym}
use Rattle.tag_heap.proofs.Preserved.{used_at}
use Rattle.tag_heap.proofs.ReadLemmas.{block_words_are, no_block_words}
use Rattle.tag_heap.proofs.open_heap.OpenHeap.block_words.Goals as goal

pub size_of-requires : goal.size_of-requires
size_of-requires g c = record { used = used_at _ c.self.invariant c.args.h.0 c.in-Some.place (sym c.in-Some.ensures.found) }

pub returns-in-Some-clause-value : goal.returns-in-Some-clause-value
returns-in-Some-clause-value g c = rw (← c.self.view_is) (block_words_are _ c.self.invariant g.met.B.FitPolicy.tiled c.args.h.0 c.in-Some.place
    c.size_of.result (sym c.in-Some.ensures.found) c.size_of.ensures.size)

pub returns-in-None-clause-value : goal.returns-in-None-clause-value
returns-in-None-clause-value g c = rw (← c.self.view_is) (no_block_words _ c.self.invariant g.met.B.FitPolicy.tiled c.args.h.0 (sym c.in-None.ensures.found))
