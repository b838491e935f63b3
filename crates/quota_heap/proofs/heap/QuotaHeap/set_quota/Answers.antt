use Rattle.quota_heap.proofs.Rules.{rules}
use Rattle.quota_heap.proofs.heap.QuotaHeap.set_quota.Goals as goal

pub returns-clause-kept : goal.returns-clause-kept
returns-clause-kept c = rules c.set_quota.new.self c.set_quota.ensures.kept
