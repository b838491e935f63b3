use Rattle.std.proofs.Common.{◌+◌, sym, subst}
use Rattle.page_model.specs.Image.{MovesWords}
use Rattle.region.proofs.CallerLemmas.{moved_moves}
use Rattle.sliced_heap.proofs.next_words.move_next.Goals as goal

pub returns-clause-words : goal.returns-clause-words
returns-clause-words c =
    subst (λ ws. MovesWords c.args.region.now ws (record { from = c.args.k.address + c.args.k.done; count = c.args.n }) (c.args.to + c.args.k.done))
    (sym c.move_words.ensures.words)
    (moved_moves c.args.region.now (c.args.k.address + c.args.k.done) (c.args.to + c.args.k.done) c.args.n c.requires.source c.requires.target c.requires.apart)
