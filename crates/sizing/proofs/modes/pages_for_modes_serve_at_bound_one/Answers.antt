use Rattle.std.proofs.Common.{arith}
use Rattle.sizing.proofs.ModePages.{spread_at_one, spread_mallocs, spread_resizes}
use Rattle.sizing.proofs.modes.pages_for_modes_serve_at_bound_one.Goals as goal

pub returns-clause-mallocs : goal.returns-clause-mallocs
returns-clause-mallocs c = λ p modes ok ones enough. spread_mallocs p ok modes (let e = spread_at_one p ok modes ones in omega arith)

pub returns-clause-resizes : goal.returns-clause-resizes
returns-clause-resizes c = λ p modes ok ones less. spread_resizes p ok modes (let e = spread_at_one p ok modes ones in omega arith)
