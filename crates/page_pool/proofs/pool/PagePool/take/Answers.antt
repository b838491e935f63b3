-- Removing the first page leaves a pool.
use Rattle.std.proofs.Common.{arith}
use Rattle.page_pool.proofs.Stack.{laid_taken}
use Rattle.page_pool.proofs.pool.PagePool.take.Goals as goal

pub invariant_of-self : goal.invariant_of-self
invariant_of-self c = laid_taken _ _ c.self.invariant (let within = c.self.invariant.within in omega arith)

pub returns-clause-kept : goal.returns-clause-kept
returns-clause-kept c = (laid_taken _ _ c.self.invariant (let within = c.self.invariant.within in omega arith)).pool
