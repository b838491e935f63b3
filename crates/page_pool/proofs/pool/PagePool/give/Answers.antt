-- While a page isn't free, the stack has a place for it.
use Rattle.page_pool.proofs.Stack.{laid_given}
use Rattle.page_pool.proofs.pool.PagePool.give.Goals as goal

pub overflow_sub-self : goal.overflow_sub-self
overflow_sub-self c = (laid_given _ _ c.args.page c.self.invariant _ c.self.view_is c.requires.within c.requires.taken).some

pub invariant_of-self : goal.invariant_of-self
invariant_of-self c = rw c.set.ensures.cells ((laid_given _ _ c.args.page c.self.invariant _ c.self.view_is c.requires.within c.requires.taken).laid)

pub returns-clause-pool : goal.returns-clause-pool
returns-clause-pool c = rw c.set.ensures.cells ((laid_given _ _ c.args.page c.self.invariant _ c.self.view_is c.requires.within c.requires.taken).pool)

pub returns-clause-kept : goal.returns-clause-kept
returns-clause-kept c = rw c.set.ensures.cells ((laid_given _ _ c.args.page c.self.invariant _ c.self.view_is c.requires.within c.requires.taken).laid.pool)
