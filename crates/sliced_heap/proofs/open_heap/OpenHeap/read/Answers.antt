use Rattle.std.proofs.Common.{length, refl}
use Rattle.sliced_heap.specs.Heap.{sliced_seen}
use Rattle.sliced_heap.proofs.AccessLemmas.{part_from, part_read, part_short, part_to}
use Rattle.sliced_heap.proofs.open_heap.OpenHeap.read.Goals as goal

pub read_halves-requires-clause-short : goal.read_halves-requires-clause-short
read_halves-requires-clause-short c =
    part_short (sliced_seen c.args.self.now) c.requires c.args.h.0 c.args.at (length c.args.out.now) c.in_ok-halves.halves c.in_ok-halves.ensures.found

pub read_halves-requires-clause-to : goal.read_halves-requires-clause-to
read_halves-requires-clause-to c =
    part_to (sliced_seen c.args.self.now) c.requires c.args.h.0 c.args.at (length c.args.out.now) c.in_ok-halves.halves c.in_ok-halves.ensures.found

pub read_halves-requires-clause-from : goal.read_halves-requires-clause-from
read_halves-requires-clause-from c =
    part_from (sliced_seen c.args.self.now) c.requires c.args.h.0 c.args.at (length c.args.out.now) c.in_ok-halves.halves c.in_ok-halves.ensures.found

pub returns-clause-step : goal.returns-clause-step
returns-clause-step c = (
  part_read (sliced_seen c.args.self.now) c.requires c.args.h.0 c.args.at (length c.args.out.now) c.in_ok-halves.halves c.in_ok-halves.ensures.found
      c.read_halves.new.out c.read_halves.auto.out c.read_halves.ensures.bytes,
  refl,
)
