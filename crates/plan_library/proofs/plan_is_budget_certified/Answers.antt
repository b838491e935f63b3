use Rattle.std.proofs.Common.{◌/◌, ap, sym, ◌∙◌}
use Rattle.cf_base.specs.Classes.{sizes}
use Rattle.plan_library.proofs.plan_is_budget_certified.Goals as goal

pub returns-clause-exact : goal.returns-clause-exact
returns-clause-exact c = λ p set ok ones pages words all one other another.
    c.is_budget_certificate.ensures.exact p set ok ones pages words (all ∙ sym (ap (sizes (c.args.page_bytes / 8)) c.slots_if.ensures)) one other another

pub returns-clause-mallocs : goal.returns-clause-mallocs
returns-clause-mallocs c = λ yes s cost fresh ones slots words le prices.
    c.is_budget_certificate.ensures.mallocs yes s cost fresh ones (slots ∙ sym c.slots_if.ensures) words le prices

pub returns-clause-resizes : goal.returns-clause-resizes
returns-clause-resizes c = λ yes s cost fresh ones slots words lt prices.
    c.is_budget_certificate.ensures.resizes yes s cost fresh ones (slots ∙ sym c.slots_if.ensures) words lt prices

pub returns-clause-least : goal.returns-clause-least
returns-clause-least c = λ yes p cost lengths ok words all own less.
    c.is_budget_certificate.ensures.least yes p cost lengths ok words (all ∙ sym (ap (sizes (c.args.page_bytes / 8)) c.slots_if.ensures)) own less
