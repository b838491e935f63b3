use Rattle.cf_model.specs.State.{paging_in}
use Rattle.sizing.specs.Demands.{KeepsTo}
use Rattle.sizing.proofs.HeapRuns.{no_malloc_refused, no_resize_refused, paging_at}
use Rattle.sizing.proofs.MostLive.{needs_served}
use Rattle.sizing.proofs.heaps.no_call_within_the_needs_is_refused_space.Goals as goal

pub returns-clause-mallocs : goal.returns-clause-mallocs
returns-clause-mallocs c = λ needs s fresh enough calls last new n run asked. (
    let served = needs_served (paging_in s) needs (paging_at (KeepsTo needs) s calls last new fresh run) enough in
    no_malloc_refused (KeepsTo needs) s calls last new fresh run served.mallocs n asked)

pub returns-clause-resizes : goal.returns-clause-resizes
returns-clause-resizes c = λ needs s fresh enough calls last new r run asked. (
    let served = needs_served (paging_in s) needs (paging_at (KeepsTo needs) s calls last new fresh run) enough in
    no_resize_refused (KeepsTo needs) s calls last new fresh run served.resizes r asked)
