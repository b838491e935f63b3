use Rattle.std.proofs.Common.{ap, arith, slice_index, subst, sym, ◌∙◌}
use Rattle.std.proofs.lemmas.List.{length-take-le}
use Rattle.cf_base.specs.Classes.{sizes}
use Rattle.cf_base.specs.Settings.{Profile, profile_of}
use Rattle.cf_model.specs.State.{paging_in}
use Rattle.page_model.specs.Paging.{IsPaging}
use Rattle.sizing.proofs.CheckedBudget.{certificate_like, fewer_refused, heap_mallocs, heap_resizes, ones_are, ones_high, ones_low}
use Rattle.sizing.proofs.CheckedPoints.{paging_is, paging_right}
use Rattle.sizing.proofs.budget_certificate.is_budget_certificate.Goals as goal

pub are_least-requires-clause-heap : goal.are_least-requires-clause-heap
are_least-requires-clause-heap c =
    let set = c.fill_sizes-classes.ensures.sizes in
    let ones = ones_are c.fill_sizes-classes.result c.fill_sizes-classes.ensures.within in
    subst IsPaging (sym (paging_is (profile_of c.in-Ok.s) c.args.layout _ _ set))
    (paging_right (profile_of c.in-Ok.s) c.args.layout _ _ c.in-Ok.s.page_size set (
      ones.0 ∙ sym (length-take-le c.fill_sizes-classes.result c.fill_sizes-classes.new.table (let all = c.fill_sizes-classes.auto.table in let few = c.fill_sizes-classes.ensures.within in omega arith)),
      λ k lt. (let long = ones.0 in let one = ones.1 k (omega arith) in omega arith),
    ))

pub returns-clause-exact : goal.returns-clause-exact
returns-clause-exact c = λ p set ok ones pages words all one other another. (
    let w = ap (λ (f : Profile). f.page_words) c.in-Ok.ensures.value in
    let n = ap (λ (f : Profile). f.pages) c.in-Ok.ensures.value in
    let s = c.fill_sizes-classes.ensures.sizes ∙ ap (λ n. sizes n c.args.layout) w in
    let few = c.fill_sizes-classes.ensures.within in
    let room = c.fill_sizes-classes.auto.table in (
      λ yes. certificate_like p _ (words ∙ sym w) (all ∙ sym s) (slice_index c.args.prices.now) c.args.budget
          (ones_low p c.fill_sizes-classes.result c.fill_sizes-classes.new.table few (omega arith) ones (all ∙ sym s))
          (slice_index c.args.levels.now) (slice_index c.args.opened.now) (pages ∙ sym n) (c.are_least.ensures.0 yes),
      λ sure. c.are_least.ensures.1 (certificate_like _ p (w ∙ sym words) (s ∙ sym all) (slice_index c.args.prices.now) c.args.budget
          (ones_high p c.fill_sizes-classes.result c.fill_sizes-classes.new.table few (omega arith) ones (all ∙ sym s))
          (slice_index c.args.levels.now) (slice_index c.args.opened.now) (n ∙ sym pages) sure),
    ))

pub returns-clause-mallocs : goal.returns-clause-mallocs
returns-clause-mallocs c = λ yes s cost fresh ones slots words le prices. (
    let w = ap (λ (f : Profile). f.page_words) c.in-Ok.ensures.value in
    let t = c.fill_sizes-classes.ensures.sizes ∙ ap (λ n. sizes n c.args.layout) w in
    let room = c.fill_sizes-classes.auto.table in
    let all = (λ i. sizes (words i) (slots i)) ∙ sym t in
    heap_mallocs s _ fresh (words ∙ sym w) all (ones_low (paging_in s) c.fill_sizes-classes.result c.fill_sizes-classes.new.table c.fill_sizes-classes.ensures.within (omega arith) ones all)
    cost (slice_index c.args.prices.now) prices c.args.budget (slice_index c.args.levels.now) (c.are_least.ensures.0 yes).shows (let n = ap (λ (f : Profile). f.pages) c.in-Ok.ensures.value in omega arith))

pub returns-clause-resizes : goal.returns-clause-resizes
returns-clause-resizes c = λ yes s cost fresh ones slots words lt prices. (
    let w = ap (λ (f : Profile). f.page_words) c.in-Ok.ensures.value in
    let t = c.fill_sizes-classes.ensures.sizes ∙ ap (λ n. sizes n c.args.layout) w in
    let room = c.fill_sizes-classes.auto.table in
    let all = (λ i. sizes (words i) (slots i)) ∙ sym t in
    heap_resizes s _ fresh (words ∙ sym w) all (ones_low (paging_in s) c.fill_sizes-classes.result c.fill_sizes-classes.new.table c.fill_sizes-classes.ensures.within (omega arith) ones all)
    cost (slice_index c.args.prices.now) prices c.args.budget (slice_index c.args.levels.now) (c.are_least.ensures.0 yes).shows (let n = ap (λ (f : Profile). f.pages) c.in-Ok.ensures.value in omega arith))

pub returns-clause-least : goal.returns-clause-least
returns-clause-least c = λ yes p cost lengths ok words all own less. (
    let w = ap (λ (f : Profile). f.page_words) c.in-Ok.ensures.value in
    let t = c.fill_sizes-classes.ensures.sizes ∙ ap (λ n. sizes n c.args.layout) w in
    let n = ap (λ (f : Profile). f.pages) c.in-Ok.ensures.value in
    fewer_refused p _ (words ∙ sym w) (all ∙ sym t) (slice_index c.args.prices.now) c.args.budget (slice_index c.args.levels.now) (slice_index c.args.opened.now)
    (c.are_least.ensures.0 yes) ok cost lengths own (omega arith))
