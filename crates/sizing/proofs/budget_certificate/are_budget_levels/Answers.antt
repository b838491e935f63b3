use Rattle.std.proofs.Common.{ap, arith, slice_index, subst, sym, ◌∙◌, refl}
use Rattle.std.specs.Prelude.{◌↔◌, IsTrue}
use Rattle.cf_base.specs.Classes.{sizes}
use Rattle.cf_base.specs.Settings.{Profile, profile_of}
use Rattle.page_model.specs.Paging.{IsPaging, Paging, paging_of}
use Rattle.sizing.specs.Certificates.{AreBudgetLevels}
use Rattle.sizing.proofs.CheckedBudget.{heap_mallocs, heap_resizes}
use Rattle.sizing.proofs.CheckedPoints.{paging_is, paging_right}
use Rattle.sizing.proofs.budget_certificate.are_budget_levels.Goals as goal

pub are_enough-requires-clause-heap : goal.are_enough-requires-clause-heap
are_enough-requires-clause-heap c = subst IsPaging (sym (paging_is (profile_of c.in-Ok.s) c.args.layout c.args.bounds.now _ c.fill_sizes-classes.ensures.sizes))
    (paging_right (profile_of c.in-Ok.s) c.args.layout c.args.bounds.now _ c.in-Ok.s.page_size c.fill_sizes-classes.ensures.sizes (c.if-not-has_bounds.ensures.0 refl))

pub returns-clause-exact : goal.returns-clause-exact
returns-clause-exact c = λ set ok one other. subst (λ (p : Paging). IsTrue c.are_enough.result ↔ AreBudgetLevels p (slice_index c.args.prices.now) c.args.budget (slice_index c.args.levels.now))
    (paging_is (profile_of c.in-Ok.s) c.args.layout c.args.bounds.now _ c.fill_sizes-classes.ensures.sizes
    ∙ ap (λ (q : Profile). paging_of q c.args.layout c.args.bounds.now) c.in-Ok.ensures.value) c.are_enough.ensures

pub returns-clause-mallocs : goal.returns-clause-mallocs
returns-clause-mallocs c = λ yes s cost fresh slots words le low prices. (
    let w = ap (λ (f : Profile). f.page_words) c.in-Ok.ensures.value in
    let t = c.fill_sizes-classes.ensures.sizes ∙ ap (λ n. sizes n c.args.layout) w in
    heap_mallocs s _ fresh (words ∙ sym w) ((λ i. sizes (words i) (slots i)) ∙ sym t) low cost (slice_index c.args.prices.now) prices c.args.budget (slice_index c.args.levels.now)
    (c.are_enough.ensures.0 yes) (let n = ap (λ (f : Profile). f.pages) c.in-Ok.ensures.value in omega arith))

pub returns-clause-resizes : goal.returns-clause-resizes
returns-clause-resizes c = λ yes s cost fresh slots words lt low prices. (
    let w = ap (λ (f : Profile). f.page_words) c.in-Ok.ensures.value in
    let t = c.fill_sizes-classes.ensures.sizes ∙ ap (λ n. sizes n c.args.layout) w in
    heap_resizes s _ fresh (words ∙ sym w) ((λ i. sizes (words i) (slots i)) ∙ sym t) low cost (slice_index c.args.prices.now) prices c.args.budget (slice_index c.args.levels.now)
    (c.are_enough.ensures.0 yes) (let n = ap (λ (f : Profile). f.pages) c.in-Ok.ensures.value in omega arith))
