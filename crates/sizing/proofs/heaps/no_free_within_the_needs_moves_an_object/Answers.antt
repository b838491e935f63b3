use Rattle.cf_model.specs.State.{paging_in}
use Rattle.sizing.specs.Demands.{KeepsTo, count_in}
use Rattle.sizing.proofs.HeapRuns.{no_free_moves, paging_at}
use Rattle.sizing.proofs.MostLive.{declared_few, nothing_moves}
use Rattle.sizing.proofs.heaps.no_free_within_the_needs_moves_an_object.Goals as goal

pub returns : goal.returns
returns c = λ needs s calls last new h freed fresh high run step. no_free_moves (KeepsTo needs) s calls last new fresh run
    (nothing_moves (paging_in s) (paging_at (KeepsTo needs) s calls last new fresh run) (count_in (paging_in s) needs) (KeepsTo needs)
    (declared_few (paging_in s) needs) high) h freed step
