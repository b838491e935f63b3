use Rattle.sizing.proofs.BudgetPages.{level_mallocs, level_resizes}
use Rattle.sizing.proofs.budget.pages_for_a_budget_serve.Goals as goal

pub returns-clause-mallocs : goal.returns-clause-mallocs
returns-clause-mallocs c = λ p cost price levels budget ok prices. level_mallocs p cost price prices budget ok levels

pub returns-clause-resizes : goal.returns-clause-resizes
returns-clause-resizes c = λ p cost price levels budget pages ok prices. level_resizes p cost price prices budget ok levels pages
