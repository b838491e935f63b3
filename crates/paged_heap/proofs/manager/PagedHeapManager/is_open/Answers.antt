use Rattle.std.proofs.Common.{ap, subst, sym, ◌∙◌}
use Rattle.cf_model.specs.Rules.{KeepsRules}
use Rattle.paged_heap.specs.PagedState.{PagedState}
use Rattle.paged_heap.proofs.LayoutFacts.{order_of_value, rules_in}
use Rattle.paged_heap.proofs.manager.PagedHeapManager.is_open.Goals as goal

pub returns-clause-rules : goal.returns-clause-rules
returns-clause-rules g c = λ t. subst (λ (v : PagedState). KeepsRules v.state) c.self.view_is
    (rules_in g.A.Mapping.kind c.self.inside.inner c.self.invariant (sym c.is_some.ensures ∙ t))

pub returns-clause-order : goal.returns-clause-order
returns-clause-order g c = order_of_value g.A.Mapping.kind c.self.inside.inner c.args.self.now.state (ap (λ (v : PagedState). v.state) c.self.view_is)
