use Rattle.quota_heap.proofs.Rules.{rules}
use Rattle.quota_heap.proofs.heap.QuotaHeap.write.Goals as goal

pub returns-clause-kept : goal.returns-clause-kept
returns-clause-kept c = rules c.write.new.self c.write.ensures.kept
