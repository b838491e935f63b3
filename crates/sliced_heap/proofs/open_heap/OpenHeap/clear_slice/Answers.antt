use Rattle.std.proofs.Common.{arith, refl}
use Rattle.slice_model.specs.State.{Clear}
use Rattle.sliced_heap.specs.Heap.{sliced_seen}
use Rattle.sliced_heap.proofs.SliceWords.{clear_ended, clear_within}
use Rattle.sliced_heap.proofs.SliceLemmas.{all_zeros, ends_in_order, goes_in_order, goes_on, goes_on_valid, goes_to_end, part_ends, part_goes, vacated_valid}
use Rattle.sliced_heap.proofs.open_heap.OpenHeap.clear_slice.Goals as goal

pub clear_next-requires-clause-within : goal.clear_next-requires-clause-within
clear_next-requires-clause-within c = clear_within (sliced_seen c.args.self.now) c.requires.kept c.args.k c.requires.job c.words_of-n.result c.words_of-n.ensures

pub returns-then-done-slot_words : goal.returns-then-done-slot_words
returns-then-done-slot_words c =
    let h = sliced_seen c.args.self.now in let s = c.slot_words.ensures.value in let r = c.clear_next.new.region in let long = c.clear_next.ensures.len in
    let does = c.clear_next.ensures.words in
    let ended = clear_ended h c.requires.kept c.args.k c.requires.job r c.words_of-n.result c.clear_next.ensures.words in
    record {
      step = goes_on h c.requires.kept (Clear c.args.k) c.requires.job c.args.k refl r long c.words_of-n.result c.words_of-n.ensures does ended (let t = c.if-done-slot_words.true in omega arith);
      ordered = goes_in_order h c.requires.kept (Clear c.args.k) c.requires.job c.args.k refl r long c.words_of-n.result c.words_of-n.ensures does ended (let t = c.if-done-slot_words.true in omega arith);
      kept = goes_on_valid h c.requires.kept (Clear c.args.k) c.requires.job c.args.k refl r long c.words_of-n.result c.words_of-n.ensures does ended (let t = c.if-done-slot_words.true in omega arith);
      plan = refl;
      steps = part_goes h c.requires.kept (Clear c.args.k) c.requires.job c.args.k refl r long c.words_of-n.result c.words_of-n.ensures does ended (let t = c.if-done-slot_words.true in omega arith)
          c.args.steps.now c.clear_next.new.steps c.clear_next.ensures.steps;
    }

pub end-requires-clause-kept : goal.end-requires-clause-kept
end-requires-clause-kept c =
    let h = sliced_seen c.args.self.now in let s = c.slot_words.ensures.value in let r = c.clear_next.new.region in let long = c.clear_next.ensures.len in
    let does = c.clear_next.ensures.words in
    let ended = clear_ended h c.requires.kept c.args.k c.requires.job r c.words_of-n.result c.clear_next.ensures.words in
    vacated_valid h c.requires.kept (Clear c.args.k) c.requires.job c.args.k refl r long c.words_of-n.result c.words_of-n.ensures does ended (let t = c.if-done-slot_words.false in omega arith)

pub end-requires-clause-zeros : goal.end-requires-clause-zeros
end-requires-clause-zeros c =
    let h = sliced_seen c.args.self.now in let s = c.slot_words.ensures.value in let r = c.clear_next.new.region in let long = c.clear_next.ensures.len in
    let does = c.clear_next.ensures.words in
    let ended = clear_ended h c.requires.kept c.args.k c.requires.job r c.words_of-n.result c.clear_next.ensures.words in
    all_zeros h c.requires.kept (Clear c.args.k) c.requires.job c.args.k refl r long c.words_of-n.result c.words_of-n.ensures does ended (let t = c.if-done-slot_words.false in omega arith)

pub returns : goal.returns
returns c =
    let h = sliced_seen c.args.self.now in let s = c.slot_words.ensures.value in let r = c.clear_next.new.region in let long = c.clear_next.ensures.len in
    let does = c.clear_next.ensures.words in
    let ended = clear_ended h c.requires.kept c.args.k c.requires.job r c.words_of-n.result c.clear_next.ensures.words in
    record {
      step = goes_to_end h c.requires.kept (Clear c.args.k) c.requires.job c.args.k refl r long c.words_of-n.result c.words_of-n.ensures does ended (let t = c.if-done-slot_words.false in omega arith)
          (sliced_seen c.end.new.self) c.end.ensures.ended c.end.ensures.words;
      ordered = ends_in_order h c.requires.kept (Clear c.args.k) c.requires.job c.args.k refl r long c.words_of-n.result c.words_of-n.ensures does ended (let t = c.if-done-slot_words.false in omega arith)
          (sliced_seen c.end.new.self) c.end.ensures.ended c.end.ensures.ordered c.end.ensures.words;
      kept = c.end.ensures.kept;
      plan = c.end.ensures.plan;
      steps = part_ends h c.requires.kept (Clear c.args.k) c.requires.job c.args.k refl r long c.words_of-n.result c.words_of-n.ensures does ended (let t = c.if-done-slot_words.false in omega arith)
          c.args.steps.now c.clear_next.new.steps c.end.new.steps c.clear_next.ensures.steps c.end.ensures.steps;
    }
