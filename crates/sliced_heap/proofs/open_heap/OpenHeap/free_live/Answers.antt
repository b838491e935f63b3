use Rattle.sliced_heap.specs.Heap.{sliced_seen}
use Rattle.sliced_heap.proofs.FreeLemmas.{free_takes, frees_from}
use Rattle.sliced_heap.proofs.open_heap.OpenHeap.free_live.Goals as goal

pub returns-clause-step : goal.returns-clause-step
returns-clause-step c =
    (frees_from (sliced_seen c.args.self.now) c.requires.kept c.requires.idle c.args.h.0 c.start_clearing-k.result (sliced_seen c.start_clearing-k.new.self) (sliced_seen c.fill-filled.new.self)
    (sliced_seen c.slice.new.self) c.start_clearing-k.ensures.gone c.start_clearing-k.ensures.kept c.fill-filled.result c.fill-filled.ensures.filled c.slice.ensures.ordered).frees

pub returns-clause-ordered : goal.returns-clause-ordered
returns-clause-ordered c =
    frees_from (sliced_seen c.args.self.now) c.requires.kept c.requires.idle c.args.h.0 c.start_clearing-k.result (sliced_seen c.start_clearing-k.new.self) (sliced_seen c.fill-filled.new.self)
    (sliced_seen c.slice.new.self) c.start_clearing-k.ensures.gone c.start_clearing-k.ensures.kept c.fill-filled.result c.fill-filled.ensures.filled c.slice.ensures.ordered

pub returns-clause-steps : goal.returns-clause-steps
returns-clause-steps c =
    free_takes (sliced_seen c.args.self.now) c.requires.kept c.requires.idle c.args.h.0 c.start_clearing-k.result (sliced_seen c.start_clearing-k.new.self)
    (sliced_seen c.fill-filled.new.self) c.start_clearing-k.ensures.gone c.start_clearing-k.ensures.kept c.fill-filled.result c.fill-filled.ensures.filled
    c.args.steps.now c.start_clearing-k.new.steps c.fill-filled.new.steps c.slice.new.steps c.start_clearing-k.ensures.steps c.fill-filled.ensures.steps
    c.slice.ensures.steps
