use Rattle.std.proofs.Common.{arith}
use Rattle.std.proofs.lemmas.Bool.{eq-eqb, eqb-true}
use Rattle.proxy_table.proofs.View.{below_limit, len_is, limit_is}
use Rattle.proxy_table.proofs.ProxyTable.is_full.Goals as goal

pub returns-clause-value : goal.returns-clause-value
returns-clause-value c =
    let live = len_is _ _ _ _ c.self.view_is in let limit = limit_is _ _ _ _ c.self.view_is in let counted = c.self.invariant.counted in
    (λ full. (let none = eqb-true c.self.inside.left 0 full in omega arith), λ all. eq-eqb c.self.inside.left 0 (omega arith))

pub returns-clause-kept : goal.returns-clause-kept
returns-clause-kept c = below_limit _ _ _ _ c.self.view_is c.self.invariant
