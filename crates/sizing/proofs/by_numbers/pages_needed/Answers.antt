use Rattle.std.proofs.Common.{sym, ◌∙◌}
use Rattle.cf_base.specs.Classes.{sizes}
use Rattle.cf_model.specs.State.{paging_in}
use Rattle.sizing.specs.Demands.{KeepsTo}
use Rattle.sizing.proofs.HeapRuns.{no_malloc_refused, no_resize_refused, paging_at}
use Rattle.sizing.proofs.by_numbers.pages_needed.Goals as goal

pub returns-in-Some-clause-mallocs : goal.returns-in-Some-clause-mallocs
returns-in-Some-clause-mallocs c = λ s fresh slots words le calls last new n run asked. (
    let page = words ∙ sym c.in_ok-s.ensures.page in
    let served = c.in-Some.ensures.enough (paging_in s) (paging_at (KeepsTo c.args.needs.now) s calls last new fresh run) page (λ i. sizes (page i) (slots i)) le in
    no_malloc_refused (KeepsTo c.args.needs.now) s calls last new fresh run served.mallocs n asked)

pub returns-in-Some-clause-resizes : goal.returns-in-Some-clause-resizes
returns-in-Some-clause-resizes c = λ s fresh slots words le calls last new r run asked. (
    let page = words ∙ sym c.in_ok-s.ensures.page in
    let served = c.in-Some.ensures.enough (paging_in s) (paging_at (KeepsTo c.args.needs.now) s calls last new fresh run) page (λ i. sizes (page i) (slots i)) le in
    no_resize_refused (KeepsTo c.args.needs.now) s calls last new fresh run served.resizes r asked)
