use Rattle.sizing.specs.Demands.{HasAtMost}
use Rattle.sizing.proofs.MostLive.{is_served, needs_served}
use Rattle.sizing.proofs.laws.enough_pages_serve.Goals as goal

pub returns-clause-counts : goal.returns-clause-counts
returns-clause-counts c = λ p most ok enough. is_served p ok most (HasAtMost p most) (λ o few. few) enough

pub returns-clause-needs : goal.returns-clause-needs
returns-clause-needs c = λ p needs ok enough. needs_served p needs ok enough
