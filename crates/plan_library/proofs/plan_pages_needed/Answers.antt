use Rattle.std.proofs.Common.{refl, sym, ◌∙◌}
use Rattle.std.proofs.lemmas.Bool.{false≢true}
use Rattle.plan_library.proofs.plan_pages_needed.Goals as goal

pub returns-in-Ok-clause-mallocs : goal.returns-in-Ok-clause-mallocs
returns-in-Ok-clause-mallocs c = λ yes s fresh slots words le. c.in-Ok.ensures.mallocs s fresh (slots ∙ sym c.slots_if.ensures) words le

pub returns-in-Ok-clause-resizes : goal.returns-in-Ok-clause-resizes
returns-in-Ok-clause-resizes c = λ yes s fresh slots words le. c.in-Ok.ensures.resizes s fresh (slots ∙ sym c.slots_if.ensures) words le

pub returns-in-Ok-clause-fault : goal.returns-in-Ok-clause-fault
returns-in-Ok-clause-fault c = λ no. absurd (false≢true (sym no))

pub returns-in-Err-clause-fault : goal.returns-in-Err-clause-fault
returns-in-Err-clause-fault c = λ no. ((c.in-Err.field-0, c.in-Err.ensures.fault), refl)
