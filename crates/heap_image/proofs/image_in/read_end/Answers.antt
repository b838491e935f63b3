use Rattle.std.proofs.Common.{List, ℕ, get_or, refl, subst}
use Rattle.heap_image.specs.Feed.{TakesBytes, feed_of}
use Rattle.heap_image.proofs.FillLemmas.{one_byte}
use Rattle.heap_image.proofs.image_in.read_end.Goals as goal

pub returns-in-Whole-clause-end : goal.returns-in-Whole-clause-end
returns-in-Whole-clause-end g c = (
  refl,
  (
    get_or c.fill.new.buffer 0 0,
    subst (λ (b : List ℕ). TakesBytes b (feed_of (g.S.Source.state c.args.source.now))
        (feed_of (g.S.Source.state c.fill.new.source))) (one_byte c.fill.new.buffer c.fill.auto.buffer)
        c.in-Whole.ensures.fills,
  ),
)
