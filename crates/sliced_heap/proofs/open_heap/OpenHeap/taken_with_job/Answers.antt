use Rattle.std.proofs.Common.{◌∙◌, ap}
use Rattle.slice_model.specs.State.{job_slot}
use Rattle.sliced_heap.specs.Heap.{job_of, sliced_seen}
use Rattle.sliced_heap.specs.declared.open_heap.Pending.{Pending}
use Rattle.sliced_heap.proofs.FigureLemmas.{taken_beside}
use Rattle.sliced_heap.proofs.open_heap.OpenHeap.taken_with_job.Goals as goal

pub returns-in-Clear : goal.returns-in-Clear
returns-in-Clear c =
    c.taken_with.ensures ∙ taken_beside (sliced_seen c.args.self.now) c.requires c.in-Clear.k (ap (λ (j : Pending). job_slot (job_of j)) c.in-Clear.is)

pub returns-in-Move : goal.returns-in-Move
returns-in-Move c =
    c.taken_with-in-Move.ensures ∙ taken_beside (sliced_seen c.args.self.now) c.requires c.in-Move.k (ap (λ (j : Pending). job_slot (job_of j)) c.in-Move.is)
