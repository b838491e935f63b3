use Rattle.quota_heap.proofs.Rules.{rules}
use Rattle.quota_heap.proofs.heap.QuotaHeap.open_heap.Goals as goal

pub returns-clause-kept : goal.returns-clause-kept
returns-clause-kept c = rules c.in_ok-new.field-0 c.in_ok-new.ensures.kept
