use Rattle.sizing.specs.Demands.{HasAtMost}
use Rattle.sizing.proofs.MostLive.{nothing_moves}
use Rattle.sizing.proofs.laws.nothing_must_move.Goals as goal

pub returns : goal.returns
returns c = λ p most calls m h x ok high run there. nothing_moves p ok most (HasAtMost p most) (λ o few. few) high calls m run h x there
