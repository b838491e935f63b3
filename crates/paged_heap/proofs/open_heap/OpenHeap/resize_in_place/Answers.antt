-- The bytes are cut, and the header holds the new length.
use Rattle.std.proofs.Common.{◌≡◌, ◌+◌, ◌-◌, ◌≤◌, set, arith, refl, ◌∙◌, ap}
use Rattle.page_model.specs.Image.{header_word}
use Rattle.step_ledger.proofs.CallerLemmas.{rose_both}
use Rattle.virtual_words.specs.Words.{words_of}
use Rattle.paged_heap.specs.Heap.{Heap, seen}
use Rattle.paged_heap.proofs.ByKind.{in_region}
use Rattle.paged_heap.proofs.FreedObject.{asked_some}
use Rattle.paged_heap.proofs.CountLimits.{asked_room}
use Rattle.paged_heap.proofs.ResizeInPlace.{bytes_in, bytes_low, fits_chosen, fits_kept, fits_resized}
use Rattle.paged_heap.proofs.open_heap.OpenHeap.resize_in_place.Goals as goal

pub zero_tail-requires-clause-within : goal.zero_tail-requires-clause-within
zero_tail-requires-clause-within g c =
    let kind = g.A.Mapping.kind in let h = seen kind c.args.self.now in let k = c.requires.kept.kept in
    let l = bytes_in k c.requires.object in
    let e = in_region kind c.args.self.now c.requires.kept.laid in
    omega arith

pub zero_tail-requires-clause-small : goal.zero_tail-requires-clause-small
zero_tail-requires-clause-small g c =
    let kind = g.A.Mapping.kind in let h = seen kind c.args.self.now in let k = c.requires.kept.kept in
    let l = bytes_low k c.requires.object in
    omega arith

pub write-requires-clause-within : goal.write-requires-clause-within
write-requires-clause-within g c =
    let kind = g.A.Mapping.kind in let h = seen kind c.args.self.now in let k = c.requires.kept.kept in
    let l = bytes_in k c.requires.object in
    let e = c.zero_tail.ensures.len in
    let f = in_region kind c.args.self.now c.requires.kept.laid in
    omega arith

pub overflow_sub-self : goal.overflow_sub-self
overflow_sub-self g c =
    let kind = g.A.Mapping.kind in let h = seen kind c.args.self.now in let k = c.requires.kept.kept in
    let l = asked_some k c.requires.object in
    let e = ap (λ (x : Heap). x.asked) c.zero_tail.ensures.rest in let f = c.from.ensures in
    omega arith

pub overflow_add-self : goal.overflow_add-self
overflow_add-self g c =
    let kind = g.A.Mapping.kind in let h = seen kind c.args.self.now in let k = c.requires.kept.kept in
    let l = asked_room h k in
    let e = ap (λ (x : Heap). x.asked) c.zero_tail.ensures.rest in
    let f = c.from.ensures in let g' = c.from-2.ensures in let r = c.ranges.bytes.fits in
    omega arith

pub returns : goal.returns
returns g c =
    let kind = g.A.Mapping.kind in let h = seen kind c.args.self.now in let k = c.requires.kept.kept in
    let t = seen kind c.zero_tail.new.self in let z = c.zero_tail.ensures in let o = c.requires.object in
    let n : Heap = record t {
      words = words_of kind c.zero_tail.new.self.blocks c.write.new.region;
      asked = c.zero_tail.new.self.asked - c.from.result + c.from-2.result;
    } in
    let en : n ≡ record t { words = set t.words c.args.place (header_word c.args.h.0 c.args.bytes); asked = t.asked - c.args.length + c.args.bytes } =
    (ap (λ ws. record t { words = ws; asked = t.asked - c.from.result + c.from-2.result })
    (c.write.ensures.words ∙ ap (set t.words c.args.place) c.pack.ensures)
    ∙ ap (λ x. record t { words = set t.words c.args.place (header_word c.args.h.0 c.args.bytes); asked = t.asked - x + c.from-2.result }) c.from.ensures
    ∙ ap (λ x. record t { words = set t.words c.args.place (header_word c.args.h.0 c.args.bytes); asked = t.asked - c.args.length + x }) c.from-2.ensures) in
    let still : c.args.length ≤ c.args.bytes → t ≡ h = λ le. ap (seen kind) (z.kept le) in
    record {
      step = fits_resized h t n k c.args.h.0 c.args.place c.args.length c.args.c o c.args.bytes c.requires.same z.rest z.cut still en
          _ c.slot_words-slot_words.ensures.value c.slot_words-slot_words.ensures.value refl c.requires.fits;
      kept = record {
        laid = c.write.ensures.laid;
        kept = fits_kept h t n k c.args.h.0 c.args.place c.args.length c.args.c o c.args.bytes c.requires.same z.rest z.cut still en;
      };
      choice = fits_chosen h t n k c.args.h.0 c.args.place c.args.length c.args.c o c.args.bytes c.requires.same z.rest z.cut still en _;
      slot = c.slot_words-slot_words.ensures.value;
      old_slot = refl;
      steps = rose_both _ _ _ _ _ z.steps c.write.ensures.steps;
    }
