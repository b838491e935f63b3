use Rattle.std.proofs.Common.{length, arith, sym, ap}
use Rattle.std.specs.Prelude.{option_map}
use Rattle.page_model.specs.Held.{Placed}
use Rattle.sliced_heap.specs.Heap.{sliced_seen}
use Rattle.sliced_heap.proofs.AccessLemmas.{head_from, head_to, length_read}
use Rattle.sliced_heap.proofs.Facts.{no_place}
use Rattle.sliced_heap.proofs.open_heap.OpenHeap.length.Goals as goal

pub returns-in_default-clause-value : goal.returns-in_default-clause-value
returns-in_default-clause-value c =
    sym (ap (option_map (λ (x : Placed). length x.bytes)) (no_place (sliced_seen c.args.self.now) c.requires c.args.h.0 (sym c.in_default.ensures.found)))

pub read_word-header-requires-clause-to : goal.read_word-header-requires-clause-to
read_word-header-requires-clause-to c =
    head_to (sliced_seen c.args.self.now) c.requires c.args.h.0 c.in-Some.place (sym c.in-Some.ensures.found) c.halves.result c.halves.ensures

pub read_word-header-requires-clause-from : goal.read_word-header-requires-clause-from
read_word-header-requires-clause-from c =
    head_from (sliced_seen c.args.self.now) c.requires c.args.h.0 c.in-Some.place (sym c.in-Some.ensures.found) c.halves.result c.halves.ensures

pub returns-clause-value : goal.returns-clause-value
returns-clause-value c =
    let v = c.read_word-header.ensures.value in
    let u = c.unpack.ensures.length in
    length_read (sliced_seen c.args.self.now) c.requires c.args.h.0 c.in-Some.place (sym c.in-Some.ensures.found) c.halves.result c.halves.ensures
    c.unpack.result.length (omega arith)
