use Rattle.sizing.proofs.FewerPages.{refused}
use Rattle.sizing.proofs.laws.fewer_pages_refuse.Goals as goal

pub returns : goal.returns
returns c = λ p s needs ok same none past. refused p ok needs s same none past
