use Rattle.sizing.proofs.ModePages.{spread_mallocs, spread_resizes}
use Rattle.sizing.proofs.modes.pages_for_modes_serve.Goals as goal

pub returns-clause-mallocs : goal.returns-clause-mallocs
returns-clause-mallocs c = λ p modes ok. spread_mallocs p ok modes

pub returns-clause-resizes : goal.returns-clause-resizes
returns-clause-resizes c = λ p modes ok. spread_resizes p ok modes
