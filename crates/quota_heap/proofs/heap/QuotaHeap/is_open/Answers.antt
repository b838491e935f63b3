use Rattle.std.proofs.Common.{sym, subst, ◌∙◌}
use Rattle.quota_heap.specs.State.{KeepsTasks}
use Rattle.quota_heap.proofs.Rules.{open_rules}
use Rattle.quota_heap.proofs.heap.QuotaHeap.is_open.Goals as goal

pub returns-clause-rules : goal.returns-clause-rules
returns-clause-rules c = λ t. subst KeepsTasks c.self.view_is (open_rules c.self.inside.inner c.self.invariant (sym c.is_some.ensures ∙ t))
