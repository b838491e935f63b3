use Rattle.std.proofs.Common.{arith}
use Rattle.proxy_table.proofs.View.{below_limit, len_is}
use Rattle.proxy_table.proofs.ProxyTable.live.Goals as goal

pub returns-clause-count : goal.returns-clause-count
returns-clause-count c = omega (arith, len_is _ _ _ _ c.self.view_is, c.self.invariant.counted)

pub returns-clause-kept : goal.returns-clause-kept
returns-clause-kept c = below_limit _ _ _ _ c.self.view_is c.self.invariant
