use Rattle.std.proofs.Common.{ap, sym}
use Rattle.cf_model.specs.State.{HeapState}
use Rattle.virtual_words.proofs.CallerLemmas.{mapped_once}
use Rattle.paged_heap.proofs.manager.PagedHeap+Mapped.physical_words_are_mapped.Goals as goal

pub returns-clause-kind : goal.returns-clause-kind
returns-clause-kind c = ap (λ (s : HeapState). s.kind) (sym c.open-open.ensures.state)

pub returns-clause-words : goal.returns-clause-words
returns-clause-words c = let heap = c.open-open.result.now in rw (sym c.open-open.ensures.state, sym c.open-open.ensures.physical)
    (mapped_once heap.blocks heap.region c.open-open.ensures.kept.laid).2
