-- The numbers below n are all free.
use Rattle.std.proofs.Common.{◌∙◌}
use Rattle.page_pool.proofs.Stack.{laid_fresh, fresh_pool}
use Rattle.page_pool.proofs.pool.PagePool.new.Goals as goal

pub invariant_of-result : goal.invariant_of-result
invariant_of-result c = laid_fresh c.args.n c.ranges.n.fits c.new.result (c.new.ensures ∙ c.in-Ok.ensures)

pub returns-in-Ok-clause-pool : goal.returns-in-Ok-clause-pool
returns-in-Ok-clause-pool c = fresh_pool c.args.n c.new.result (c.new.ensures ∙ c.in-Ok.ensures)

pub returns-in-Ok-clause-kept : goal.returns-in-Ok-clause-kept
returns-in-Ok-clause-kept c = (laid_fresh c.args.n c.ranges.n.fits c.new.result (c.new.ensures ∙ c.in-Ok.ensures)).pool
