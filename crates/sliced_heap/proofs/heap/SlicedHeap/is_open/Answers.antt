use Rattle.std.proofs.Common.{subst, sym, ◌∙◌}
use Rattle.sliced_heap.specs.Shown.{KeepsSlicedRules}
use Rattle.sliced_heap.proofs.Rules.{keeps_open}
use Rattle.sliced_heap.proofs.heap.SlicedHeap.is_open.Goals as goal

pub returns-clause-rules : goal.returns-clause-rules
returns-clause-rules c = λ t. subst KeepsSlicedRules c.self.view_is (keeps_open c.self.inside.inner c.self.invariant (sym c.is_some.ensures ∙ t))
