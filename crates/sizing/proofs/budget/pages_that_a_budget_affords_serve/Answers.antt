use Rattle.sizing.proofs.BudgetPages.{afforded_mallocs, afforded_resizes}
use Rattle.sizing.proofs.budget.pages_that_a_budget_affords_serve.Goals as goal

pub returns-clause-mallocs : goal.returns-clause-mallocs
returns-clause-mallocs c = λ p cost price budget ok ones prices. afforded_mallocs p cost price prices budget ok ones

pub returns-clause-resizes : goal.returns-clause-resizes
returns-clause-resizes c = λ p cost price budget ok ones prices. afforded_resizes p cost price prices budget ok ones
