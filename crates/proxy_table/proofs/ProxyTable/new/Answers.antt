use Rattle.std.proofs.Common.{◌<◌, ◌^◌, arith}
use Rattle.proxy_table.proofs.Stack.{stack_new}
use Rattle.proxy_table.proofs.View.{places_below, proxies_of-vacant}
use Rattle.proxy_table.proofs.ProxyTable.new.Goals as goal

pub invariant_of-result : goal.invariant_of-result
invariant_of-result c =
    let small : c.args.n < 2 ^ 32 = omega arith in
    rw (c.new.ensures, c.new-2.ensures, c.in-Ok.ensures) (stack_new _ _ small c.in-Ok-falling.ensures)

pub returns-clause-kept : goal.returns-clause-kept
returns-clause-kept c =
    let small : c.args.n < 2 ^ 32 = omega arith in
    rw (c.new.ensures, c.new-2.ensures, c.in-Ok.ensures) (places_below _ _ _ (stack_new _ _ small c.in-Ok-falling.ensures))

pub returns-clause-none : goal.returns-clause-none
returns-clause-none c =
    rw (c.new.ensures, c.new-2.ensures, c.in-Ok.ensures) (proxies_of-vacant c.args.n _ c.in-Ok-falling.ensures)
