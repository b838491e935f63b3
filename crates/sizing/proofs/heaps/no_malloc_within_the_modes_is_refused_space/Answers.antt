use Rattle.cf_model.specs.State.{paging_in}
use Rattle.sizing.specs.Demands.{KeepsToOne}
use Rattle.sizing.proofs.HeapRuns.{no_malloc_refused, paging_at}
use Rattle.sizing.proofs.ModePages.{all_mallocs, spread_mallocs}
use Rattle.sizing.proofs.heaps.no_malloc_within_the_modes_is_refused_space.Goals as goal

pub returns-clause-spread : goal.returns-clause-spread
returns-clause-spread c = λ modes s fresh enough calls last new n run asked. no_malloc_refused (KeepsToOne modes) s calls last new fresh run
    (spread_mallocs (paging_in s) (paging_at (KeepsToOne modes) s calls last new fresh run) modes enough) n asked

pub returns-clause-certified : goal.returns-clause-certified
returns-clause-certified c = λ modes points s fresh sure within calls last new n run asked. no_malloc_refused (KeepsToOne modes) s calls last new fresh run
    (all_mallocs (paging_in s) (paging_at (KeepsToOne modes) s calls last new fresh run) modes points sure within) n asked
