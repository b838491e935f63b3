use Rattle.std.proofs.Common.{◌≡◌, length, slice_index, sym, subst, ◌∙◌}
use Rattle.std.specs.Prelude.{◌↔◌, IsTrue}
use Rattle.cf_base.specs.Settings.{profile_from}
use Rattle.cf_base.specs.declared.kind.Layout.{Layout}
use Rattle.page_model.specs.Paging.{IsPaging, classes, paging_of}
use Rattle.sizing.specs.Certificates.{AreBudgetLevels}
use Rattle.plan_library.proofs.plan_are_budget_levels.Goals as goal

pub returns-clause-exact : goal.returns-clause-exact
returns-clause-exact c = λ set. subst (λ (l : Layout). IsPaging (paging_of (profile_from c.args.pages c.args.page_bytes 1 65536) l c.args.bounds.now)
    → length c.args.prices.now ≡ classes (paging_of (profile_from c.args.pages c.args.page_bytes 1 65536) l c.args.bounds.now)
    → length c.args.levels.now ≡ classes (paging_of (profile_from c.args.pages c.args.page_bytes 1 65536) l c.args.bounds.now)
    → IsTrue c.are_budget_levels.result ↔ AreBudgetLevels (paging_of (profile_from c.args.pages c.args.page_bytes 1 65536) l c.args.bounds.now) (slice_index c.args.prices.now) c.args.budget (slice_index c.args.levels.now))
    c.slots_if.ensures (c.are_budget_levels.ensures.exact set)

pub returns-clause-mallocs : goal.returns-clause-mallocs
returns-clause-mallocs c = λ yes s cost fresh slots. c.are_budget_levels.ensures.mallocs yes s cost fresh (slots ∙ sym c.slots_if.ensures)

pub returns-clause-resizes : goal.returns-clause-resizes
returns-clause-resizes c = λ yes s cost fresh slots. c.are_budget_levels.ensures.resizes yes s cost fresh (slots ∙ sym c.slots_if.ensures)
