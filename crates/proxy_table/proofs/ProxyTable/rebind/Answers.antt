use Rattle.std.proofs.Common.{arith}
use Rattle.proxy_table.proofs.Stack.{stack_rebound, off_stack}
use Rattle.proxy_table.proofs.View.{places_below, live_at, live_within, seen_set, free_is}
use Rattle.proxy_table.proofs.ProxyTable.rebind.Goals as goal

pub set-requires : goal.set-requires
set-requires c = omega (arith, live_within _ _ _ _ c.self.view_is _ c.requires.live)

pub invariant_of-self : goal.invariant_of-self
invariant_of-self c =
    rw c.set.ensures.cells (stack_rebound _ _ _ _ c.self.invariant _
    (live_at _ _ _ _ c.self.view_is _ c.requires.live) (live_within _ _ _ _ c.self.view_is _ c.requires.live))

pub returns-clause-places : goal.returns-clause-places
returns-clause-places c =
    rw c.set.ensures.cells (seen_set _ _ _ _ c.self.view_is c.args.h.0 c.args.addr (live_within _ _ _ _ c.self.view_is _ c.requires.live)
    (off_stack _ _ _ _ c.self.invariant (live_at _ _ _ _ c.self.view_is _ c.requires.live)))

pub returns-clause-free : goal.returns-clause-free
returns-clause-free c = free_is _ _ _ _ c.self.view_is

pub returns-clause-kept : goal.returns-clause-kept
returns-clause-kept c =
    rw c.set.ensures.cells (places_below _ _ _ (stack_rebound _ _ _ _ c.self.invariant _
    (live_at _ _ _ _ c.self.view_is _ c.requires.live) (live_within _ _ _ _ c.self.view_is _ c.requires.live)))
