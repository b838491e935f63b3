use Rattle.std.proofs.Common.{arith, refl}
use Rattle.slice_model.specs.State.{Move}
use Rattle.step_ledger.proofs.CallerLemmas.{rose_both}
use Rattle.sliced_heap.specs.Heap.{sliced_seen}
use Rattle.sliced_heap.proofs.SliceWords.{move_apart, move_does, move_ended, move_known, move_source, move_target}
use Rattle.sliced_heap.proofs.SliceLemmas.{all_zeros, ends_in_order, goes_in_order, goes_on, goes_on_valid, goes_to_end, part_ends, part_goes, vacated_valid}
use Rattle.sliced_heap.proofs.open_heap.OpenHeap.move_slice.Goals as goal

pub unreachable-requires : goal.unreachable-requires
unreachable-requires c = move_known (sliced_seen c.args.self.now) c.requires.kept c.args.k c.args.h.0 c.requires.job c.in_default.ensures.found

pub move_next-requires-clause-source : goal.move_next-requires-clause-source
move_next-requires-clause-source c =
    move_source (sliced_seen c.args.self.now) c.requires.kept c.args.k c.args.h.0 c.requires.job c.in-Some.to c.in-Some.ensures.found c.words_of-n.result
    c.words_of-n.ensures

pub move_next-requires-clause-target : goal.move_next-requires-clause-target
move_next-requires-clause-target c =
    move_target (sliced_seen c.args.self.now) c.requires.kept c.args.k c.args.h.0 c.requires.job c.in-Some.to c.in-Some.ensures.found c.words_of-n.result
    c.words_of-n.ensures

pub move_next-requires-clause-apart : goal.move_next-requires-clause-apart
move_next-requires-clause-apart c =
    move_apart (sliced_seen c.args.self.now) c.requires.kept c.args.k c.args.h.0 c.requires.job c.in-Some.to c.in-Some.ensures.found c.words_of-n.result
    c.words_of-n.ensures

pub returns-then-done-slot_words : goal.returns-then-done-slot_words
returns-then-done-slot_words c =
    let h = sliced_seen c.args.self.now in let s = c.slot_words.ensures.value in let r = c.move_next.new.region in let long = c.move_next.ensures.len in
    let does = move_does h c.requires.kept c.args.k c.args.h.0 c.requires.job c.in-Some.to c.in-Some.ensures.found r c.words_of-n.result c.move_next.ensures.words in
    let ended = move_ended h c.requires.kept c.args.k c.args.h.0 c.requires.job c.in-Some.to c.in-Some.ensures.found r c.words_of-n.result c.move_next.ensures.words in
    record {
      step = goes_on h c.requires.kept (Move c.args.h.0 c.args.k) c.requires.job c.args.k refl r long c.words_of-n.result c.words_of-n.ensures does ended (let t = c.if-done-slot_words.true in omega arith);
      ordered = goes_in_order h c.requires.kept (Move c.args.h.0 c.args.k) c.requires.job c.args.k refl r long c.words_of-n.result c.words_of-n.ensures does ended (let t = c.if-done-slot_words.true in omega arith);
      kept = goes_on_valid h c.requires.kept (Move c.args.h.0 c.args.k) c.requires.job c.args.k refl r long c.words_of-n.result c.words_of-n.ensures does ended (let t = c.if-done-slot_words.true in omega arith);
      plan = refl;
      steps = rose_both c.args.steps.now c.lookup.new.steps c.move_next.new.steps 1 _ c.lookup.ensures.steps
          (part_goes h c.requires.kept (Move c.args.h.0 c.args.k) c.requires.job c.args.k refl r long c.words_of-n.result c.words_of-n.ensures does ended (let t = c.if-done-slot_words.true in omega arith)
          c.lookup.new.steps c.move_next.new.steps c.move_next.ensures.steps);
    }

pub end-requires-clause-kept : goal.end-requires-clause-kept
end-requires-clause-kept c =
    let h = sliced_seen c.args.self.now in let s = c.slot_words.ensures.value in let r = c.move_next.new.region in let long = c.move_next.ensures.len in
    let does = move_does h c.requires.kept c.args.k c.args.h.0 c.requires.job c.in-Some.to c.in-Some.ensures.found r c.words_of-n.result c.move_next.ensures.words in
    let ended = move_ended h c.requires.kept c.args.k c.args.h.0 c.requires.job c.in-Some.to c.in-Some.ensures.found r c.words_of-n.result c.move_next.ensures.words in
    vacated_valid h c.requires.kept (Move c.args.h.0 c.args.k) c.requires.job c.args.k refl r long c.words_of-n.result c.words_of-n.ensures does ended (let t = c.if-done-slot_words.false in omega arith)

pub end-requires-clause-zeros : goal.end-requires-clause-zeros
end-requires-clause-zeros c =
    let h = sliced_seen c.args.self.now in let s = c.slot_words.ensures.value in let r = c.move_next.new.region in let long = c.move_next.ensures.len in
    let does = move_does h c.requires.kept c.args.k c.args.h.0 c.requires.job c.in-Some.to c.in-Some.ensures.found r c.words_of-n.result c.move_next.ensures.words in
    let ended = move_ended h c.requires.kept c.args.k c.args.h.0 c.requires.job c.in-Some.to c.in-Some.ensures.found r c.words_of-n.result c.move_next.ensures.words in
    all_zeros h c.requires.kept (Move c.args.h.0 c.args.k) c.requires.job c.args.k refl r long c.words_of-n.result c.words_of-n.ensures does ended (let t = c.if-done-slot_words.false in omega arith)

pub returns : goal.returns
returns c =
    let h = sliced_seen c.args.self.now in let s = c.slot_words.ensures.value in let r = c.move_next.new.region in let long = c.move_next.ensures.len in
    let does = move_does h c.requires.kept c.args.k c.args.h.0 c.requires.job c.in-Some.to c.in-Some.ensures.found r c.words_of-n.result c.move_next.ensures.words in
    let ended = move_ended h c.requires.kept c.args.k c.args.h.0 c.requires.job c.in-Some.to c.in-Some.ensures.found r c.words_of-n.result c.move_next.ensures.words in
    record {
      step = goes_to_end h c.requires.kept (Move c.args.h.0 c.args.k) c.requires.job c.args.k refl r long c.words_of-n.result c.words_of-n.ensures does ended (let t = c.if-done-slot_words.false in omega arith)
          (sliced_seen c.end.new.self) c.end.ensures.ended c.end.ensures.words;
      ordered = ends_in_order h c.requires.kept (Move c.args.h.0 c.args.k) c.requires.job c.args.k refl r long c.words_of-n.result c.words_of-n.ensures does ended (let t = c.if-done-slot_words.false in omega arith)
          (sliced_seen c.end.new.self) c.end.ensures.ended c.end.ensures.ordered c.end.ensures.words;
      kept = c.end.ensures.kept;
      plan = c.end.ensures.plan;
      steps = rose_both c.args.steps.now c.lookup.new.steps c.end.new.steps 1 _ c.lookup.ensures.steps
          (part_ends h c.requires.kept (Move c.args.h.0 c.args.k) c.requires.job c.args.k refl r long c.words_of-n.result c.words_of-n.ensures does ended (let t = c.if-done-slot_words.false in omega arith)
          c.lookup.new.steps c.move_next.new.steps c.end.new.steps c.move_next.ensures.steps c.end.ensures.steps);
    }
