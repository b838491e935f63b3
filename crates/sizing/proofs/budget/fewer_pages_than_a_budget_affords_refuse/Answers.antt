use Rattle.sizing.proofs.BudgetLeast.{budget_refused}
use Rattle.sizing.proofs.budget.fewer_pages_than_a_budget_affords_refuse.Goals as goal

pub returns : goal.returns
returns c = λ p cost price lengths pages budget ok own affords past. budget_refused p ok cost price lengths pages budget affords own past
