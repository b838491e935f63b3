use Rattle.std.proofs.Common.{◌≡◌, refl, sym}
use Rattle.slice_model.specs.State.{Idle, Clear, Move}
use Rattle.sliced_heap.specs.Heap.{job_of, sliced_seen}
use Rattle.sliced_heap.specs.declared.open_heap.Pending.{Pending}
use Rattle.sliced_heap.specs.declared.open_heap.Pending.TheVariants as pending
use Rattle.sliced_heap.proofs.Facts.{has_place, no_place}
use Rattle.sliced_heap.proofs.open_heap.OpenHeap.free.Goals as goal

-- if the code has a pending job, the model has one too
not_idle : (j : Pending) → (j ≡ pending.Idle → ⊥) → job_of j ≡ Idle → ⊥
not_idle pending.Idle not e = not refl
not_idle (pending.Clear k) not e = (let e' : Clear k ≡ Idle = e in cc)
not_idle (pending.Move h k) not e = (let e' : Move h.0 k ≡ Idle = e in cc)

pub returns-in_default-clause-step : goal.returns-in_default-clause-step
returns-in_default-clause-step c = (no_place (sliced_seen c.args.self.now) c.requires c.args.h.0 (sym c.in_default.ensures.found), refl)

pub returns-in_default-job-clause-step : goal.returns-in_default-job-clause-step
returns-in_default-job-clause-step c =
    let w = has_place (sliced_seen c.args.self.now) c.requires c.args.h.0 c.in-Some.place (sym c.in-Some.ensures.found) in
    (record { object = w.0; found = w.1; pending = not_idle c.args.self.now.job c.in_default-job.not-Idle }, refl)

pub returns-in_default-clause-ordered : goal.returns-in_default-clause-ordered
returns-in_default-clause-ordered c = (returns-in_default-clause-step c, refl)

pub returns-in_default-job-clause-ordered : goal.returns-in_default-job-clause-ordered
returns-in_default-job-clause-ordered c = (returns-in_default-job-clause-step c, refl)
