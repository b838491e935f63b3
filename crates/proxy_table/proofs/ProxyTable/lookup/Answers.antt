use Rattle.std.proofs.Common.{None, arith, sym, ◌∙◌}
use Rattle.std.proofs.lemmas.List.{get_or_read, get_or_past}
use Rattle.proxy_table.proofs.View.{below_limit, get_is}
use Rattle.proxy_table.proofs.ProxyTable.lookup.Goals as goal

pub returns-then-number-len-clause-found : goal.returns-then-number-len-clause-found
returns-then-number-len-clause-found c =
    get_or_read c.self.inside.places c.args.h.0 c.get.result (omega arith) c.get.ensures.value None
    ∙ sym (get_is _ _ _ _ c.self.view_is c.args.h.0)

pub returns-then-number-len-clause-kept : goal.returns-then-number-len-clause-kept
returns-then-number-len-clause-kept c = below_limit _ _ _ _ c.self.view_is c.self.invariant

pub returns-else-number-len-clause-found : goal.returns-else-number-len-clause-found
returns-else-number-len-clause-found c =
    sym (get_or_past c.self.inside.places c.args.h.0 None (omega arith))
    ∙ sym (get_is _ _ _ _ c.self.view_is c.args.h.0)

pub returns-else-number-len-clause-kept : goal.returns-else-number-len-clause-kept
returns-else-number-len-clause-kept c = below_limit _ _ _ _ c.self.view_is c.self.invariant
