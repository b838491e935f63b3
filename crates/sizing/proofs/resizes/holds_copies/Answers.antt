use Rattle.std.proofs.Common.{arith, below_more, refl}
use Rattle.std.proofs.lemmas.Bool.{false≢true}
use Rattle.sizing.proofs.resizes.holds_copies.Goals as goal
use Rattle.sizing.proofs.resizes.holds_copies.Goals.{else-counts-c-gt0-via-then-counts-c-gt0+else-not-copy_fits, else-counts-c-gt0-via-else-counts-c-gt0}

pub returns-then-not-copy_fits : goal.returns-then-not-copy_fits
returns-then-not-copy_fits c = (
  λ no. absurd (false≢true no),
  λ sure. c.if-not-copy_fits.ensures.1 (sure c.loop-c.c c.loop-c-test.true c.if-counts-c-gt0.true),
)

pub loop-c-preserved : goal.loop-c-preserved
loop-c-preserved c = elim c.else-counts-c-gt0.branch [
  | else-counts-c-gt0-via-then-counts-c-gt0+else-not-copy_fits w ↦ below_more _ _ c.loop-c.invariant (λ _. w.if-not-copy_fits.ensures.0 refl)
  | else-counts-c-gt0-via-else-counts-c-gt0 w ↦ below_more _ _ c.loop-c.invariant (λ some. absurd (omega arith))
]

pub returns : goal.returns
returns c = (λ _. λ k lt. c.loop-c.invariant k (omega arith), λ _. refl)
