use Rattle.sizing.specs.Demands.{HasAtMost}
use Rattle.sizing.proofs.MostLive.{pages_along}
use Rattle.sizing.proofs.laws.pages_follow_the_most_live.Goals as goal

pub returns : goal.returns
returns c = λ p most calls m d ok run lt. (pages_along p ok most (HasAtMost p most) (λ o few. few) calls m run).1 d lt
