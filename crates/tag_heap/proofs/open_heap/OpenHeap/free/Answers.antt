use Rattle.std.proofs.Common.{◌-◌, sym, subst}
use Rattle.cf_model.specs.Rules.{KeepsRules}
use Rattle.tag_heap.specs.Heap.{Heap, tag_state_of}
use Rattle.tag_heap.proofs.Preserved.{cost_rules}
use Rattle.tag_heap.proofs.open_heap.OpenHeap.free.Goals as goal

pub returns-clause-rules : goal.returns-clause-rules
returns-clause-rules g c =
    subst (λ (h : Heap). KeepsRules (tag_state_of g.B.FitPolicy.kind (record h { cost = c.count.result - c.count-before.result }))) (sym c.self.view_is)
    (cost_rules g.B.FitPolicy.kind g.met.B.FitPolicy.tiled c.free_inner-result.new.self (c.count.result - c.count-before.result)
    c.free_inner-result.ensures.rules)
