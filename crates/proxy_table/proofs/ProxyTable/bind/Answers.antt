use Rattle.std.proofs.Common.{Some, None, ◌<◌, ◌-◌, arith, refl, ◌∙◌}
use Rattle.std.proofs.lemmas.Bool.{true≢false}
use Rattle.std.proofs.lemmas.List.{get_or-set_same}
use Rattle.cf_base.proofs.Numbered.{get-numbered}
use Rattle.proxy_table.proofs.Stack.{stack_bound, top, once_on_stack}
use Rattle.proxy_table.proofs.View.{below_limit, places_below, get_is, len_is, limit_is, seen_first, seen_given}
use Rattle.proxy_table.proofs.ProxyTable.bind.Goals as goal

pub returns-then-self-eq0-clause-none : goal.returns-then-self-eq0-clause-none
returns-then-self-eq0-clause-none c =
    (λ _. omega (arith, len_is _ _ _ _ c.self.view_is, limit_is _ _ _ _ c.self.view_is, c.self.invariant.counted), λ _. refl)

pub returns-then-self-eq0-clause-kept : goal.returns-then-self-eq0-clause-kept
returns-then-self-eq0-clause-kept c = below_limit _ _ _ _ c.self.view_is c.self.invariant

pub invariant_of-self : goal.invariant_of-self
invariant_of-self c =
    let some : 0 < c.self.inside.left = omega arith in
    rw c.set.ensures.cells (stack_bound _ _ _ _ c.self.invariant _ some (top _ _ _ c.self.invariant some c.get-number.result c.get-number.ensures.value))

pub returns-clause-none : goal.returns-clause-none
returns-clause-none c =
    (λ e. absurd (true≢false e), λ e. absurd (omega (arith, len_is _ _ _ _ c.self.view_is, limit_is _ _ _ _ c.self.view_is, c.self.invariant.counted)))

pub returns-clause-fresh : goal.returns-clause-fresh
returns-clause-fresh c =
    let some : 0 < c.self.inside.left = omega arith in
    get_is _ _ _ _ c.self.view_is _ ∙ rw (top _ _ _ c.self.invariant some c.get-number.result c.get-number.ensures.value)
    (c.self.invariant.not_live (c.self.inside.left - 1) (omega arith))

pub returns-clause-first : goal.returns-clause-first
returns-clause-first c =
    let some : 0 < c.self.inside.left = omega arith in
    seen_first _ _ _ _ c.self.view_is c.get-number.result some (top _ _ _ c.self.invariant some c.get-number.result c.get-number.ensures.value)

pub returns-clause-places : goal.returns-clause-places
returns-clause-places c =
    let some : 0 < c.self.inside.left = omega arith in
    let is = top _ _ _ c.self.invariant some c.get-number.result c.get-number.ensures.value in
    rw c.set.ensures.cells (seen_given _ _ _ _ c.self.view_is c.get-number.result c.args.addr
    (rw is (c.self.invariant.in_range (c.self.inside.left - 1) (omega arith))) some is (once_on_stack _ _ _ _ c.self.invariant some is))

pub returns-clause-live : goal.returns-clause-live
returns-clause-live c =
    let some : 0 < c.self.inside.left = omega arith in
    let is = top _ _ _ c.self.invariant some c.get-number.result c.get-number.ensures.value in
    rw c.set.ensures.cells (get-numbered _ c.get-number.result
    ∙ get_or-set_same c.self.inside.places c.get-number.result (Some c.args.addr) None
    (rw is (c.self.invariant.in_range (c.self.inside.left - 1) (omega arith))))

pub returns-clause-kept : goal.returns-clause-kept
returns-clause-kept c =
    let some : 0 < c.self.inside.left = omega arith in
    rw c.set.ensures.cells (places_below _ _ _ (stack_bound _ _ _ _ c.self.invariant _ some
    (top _ _ _ c.self.invariant some c.get-number.result c.get-number.ensures.value)))
