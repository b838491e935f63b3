use Rattle.script_loop.proofs.CallerLemmas.{cut_is_prefix_by}
use Rattle.large_session.specs.Playing.{large_heap}
use Rattle.large_session.proofs.RunInvariant.{large_goes_on}
use Rattle.large_session.proofs.laws.what_was_cut_is_a_prefix.Goals as goal

pub returns : goal.returns
returns c = λ from to call all is w. cut_is_prefix_by large_heap from (large_goes_on from.heap.inner.kind is)
    (λ old c out new going can part. (part.reply, new, part.lost, part.turn, part.cut)) to call all w
