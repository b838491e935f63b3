use Rattle.std.proofs.Common.{◌∙◌, max}
use Rattle.sizing.proofs.least.pages_with_mode.Goals as goal

pub returns-clause-modes : goal.returns-clause-modes
returns-clause-modes c = λ p modes words same before. c.max.ensures ∙ (λ i. max (c.in_ok-least.ensures.value p words same i) (before i))
