use Rattle.std.proofs.Common.{length, arith, refl}
use Rattle.sliced_heap.specs.Heap.{Heap, sliced_seen}
use Rattle.sliced_heap.proofs.AccessLemmas.{part_apart, part_from, part_short, part_to, part_valid, part_written}
use Rattle.sliced_heap.proofs.open_heap.OpenHeap.write.Goals as goal

pub write_halves-requires-clause-short : goal.write_halves-requires-clause-short
write_halves-requires-clause-short c =
    part_short (sliced_seen c.args.self.now) c.requires c.args.h.0 c.args.at (length c.args.bytes.now) c.in_ok-halves.halves c.in_ok-halves.ensures.found

pub write_halves-requires-clause-to : goal.write_halves-requires-clause-to
write_halves-requires-clause-to c =
    part_to (sliced_seen c.args.self.now) c.requires c.args.h.0 c.args.at (length c.args.bytes.now) c.in_ok-halves.halves c.in_ok-halves.ensures.found

pub write_halves-requires-clause-from : goal.write_halves-requires-clause-from
write_halves-requires-clause-from c =
    part_from (sliced_seen c.args.self.now) c.requires c.args.h.0 c.args.at (length c.args.bytes.now) c.in_ok-halves.halves c.in_ok-halves.ensures.found

pub write_halves-requires-clause-apart : goal.write_halves-requires-clause-apart
write_halves-requires-clause-apart c =
    part_apart (sliced_seen c.args.self.now) c.requires c.args.h.0 c.args.at (length c.args.bytes.now) c.in_ok-halves.halves c.in_ok-halves.ensures.found

pub returns-clause-step : goal.returns-clause-step
returns-clause-step c =
    let h = sliced_seen c.args.self.now in
    let n : Heap = record h { words = c.write_halves.new.region } in
    part_written (sliced_seen c.args.self.now) c.requires c.args.h.0 c.args.at c.in_ok-halves.halves c.args.bytes.now
    (λ i. (let f = c.type_inv.bytes i in omega arith)) c.in_ok-halves.ensures.found n refl c.write_halves.ensures.len c.write_halves.ensures.bytes

pub returns-clause-kept : goal.returns-clause-kept
returns-clause-kept c =
    let h = sliced_seen c.args.self.now in
    let n : Heap = record h { words = c.write_halves.new.region } in
    part_valid (sliced_seen c.args.self.now) c.requires c.args.h.0 c.args.at c.in_ok-halves.halves c.args.bytes.now
    (λ i. (let f = c.type_inv.bytes i in omega arith)) c.in_ok-halves.ensures.found n refl c.write_halves.ensures.len c.write_halves.ensures.bytes
