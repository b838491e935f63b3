use Rattle.std.proofs.Common.{arith}
use Rattle.proxy_table.proofs.Stack.{stack_released, stack_room}
use Rattle.proxy_table.proofs.View.{places_below, live_at, live_within, seen_released}
use Rattle.proxy_table.proofs.ProxyTable.release.Goals as goal

pub set-requires : goal.set-requires
set-requires c = omega (arith, live_within _ _ _ _ c.self.view_is _ c.requires.live)

pub set-requires-2 : goal.set-requires-2
set-requires-2 c =
    let within = live_within c.self.inside.places _ _ c.args.self.now c.self.view_is c.args.h.0 c.requires.live in
    let live = live_at c.self.inside.places _ _ c.args.self.now c.self.view_is c.args.h.0 c.requires.live in
    omega (arith, stack_room _ _ _ _ c.self.invariant live within, c.self.invariant.as_long)

pub overflow_add-self : goal.overflow_add-self
overflow_add-self c =
    let within = live_within c.self.inside.places _ _ c.args.self.now c.self.view_is c.args.h.0 c.requires.live in
    let live = live_at c.self.inside.places _ _ c.args.self.now c.self.view_is c.args.h.0 c.requires.live in
    omega (arith, stack_room _ _ _ _ c.self.invariant live within, c.self.invariant.few)

pub invariant_of-self : goal.invariant_of-self
invariant_of-self c =
    rw (c.set.ensures.cells, c.set-2.ensures.cells) (stack_released _ _ _ _ c.self.invariant
    (live_at _ _ _ _ c.self.view_is _ c.requires.live) (live_within _ _ _ _ c.self.view_is _ c.requires.live))

pub returns-clause-places : goal.returns-clause-places
returns-clause-places c =
    let within = live_within _ _ _ _ c.self.view_is c.args.h.0 c.requires.live in
    let live = live_at _ _ _ _ c.self.view_is c.args.h.0 c.requires.live in
    rw (c.set.ensures.cells, c.set-2.ensures.cells) (
    seen_released _ _ _ _ c.self.view_is c.args.h.0 within (omega (arith, stack_room _ _ _ _ c.self.invariant live within, c.self.invariant.as_long)))

pub returns-clause-kept : goal.returns-clause-kept
returns-clause-kept c =
    rw (c.set.ensures.cells, c.set-2.ensures.cells) (places_below _ _ _ (stack_released _ _ _ _ c.self.invariant
    (live_at _ _ _ _ c.self.view_is _ c.requires.live) (live_within _ _ _ _ c.self.view_is _ c.requires.live)))
