-- The kept words are moved and cut, and the header is written before them.
use Rattle.std.proofs.Common.{◌+◌, ◌*◌, ◌<◌, set, arith, sym, ◌∙◌, ap, subst}
use Rattle.step_ledger.specs.Counting.{RoseBy}
use Rattle.page_model.specs.Order.{word_steps}
use Rattle.step_ledger.proofs.CallerLemmas.{rose_both}
use Rattle.page_model.specs.Image.{MovesWords}
use Rattle.virtual_words.specs.Words.{copy_steps, words_of}
use Rattle.virtual_words.proofs.CallerLemmas.{laid_long}
use Rattle.paged_heap.specs.declared.open_heap.OpenHeap.{OpenHeap}
use Rattle.paged_heap.specs.ZeroTail.{Cuts}
use Rattle.cf_model.specs.ExactCosts.{tail_steps}
use Rattle.paged_heap.specs.Heap.{seen}
use Rattle.paged_heap.proofs.open_heap.OpenHeap.copy_to_slot.Goals as goal

pub returns-clause-words : goal.returns-clause-words
returns-clause-words g c =
    let kind = g.A.Mapping.kind in let blocks = c.args.self.now.blocks in
    let old = words_of kind blocks c.args.self.now.region in
    let moved = words_of kind blocks c.move_words.new.region in
    let cut = (seen kind c.zero_tail.new.self).words in
    let w = c.words-words.ensures in
    record {
      moved = moved;
      moves = subst (λ n. MovesWords old moved (record { from = c.args.x.place + 1; count = n }) (c.args.to + 1)) w c.move_words.ensures.words;
      long = laid_long kind blocks c.move_words.new.region c.move_words.ensures.laid ∙ c.move_words.ensures.len
          ∙ sym (laid_long kind blocks c.args.self.now.region c.requires.laid);
      cut = cut;
      shorter = subst (λ n. c.args.x.bytes < 8 * n → Cuts moved cut c.args.to c.args.x.bytes (8 * n)) w c.zero_tail.ensures.cut;
      as_long = λ le. ap (λ (o : OpenHeap). (seen kind o).words) (c.zero_tail.ensures.kept (omega arith));
      whole = c.write.ensures.words ∙ ap (set cut c.args.to) c.pack.ensures;
    }

pub returns-clause-steps : goal.returns-clause-steps
returns-clause-steps g c =
    let kind = g.A.Mapping.kind in let x = c.args.x in
    subst (λ n. RoseBy c.args.steps.now c.rebind.new.steps (copy_steps kind (x.place + 1) n + tail_steps kind c.args.to x.bytes (8 * n) + word_steps kind + 1)) c.words-words.ensures
    (rose_both _ _ _ _ _ (rose_both _ _ _ _ _ (rose_both _ _ _ _ _ c.move_words.ensures.steps c.zero_tail.ensures.steps) c.write.ensures.steps)
    c.rebind.ensures.steps)
