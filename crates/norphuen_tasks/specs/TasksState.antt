-- For `HeldTasks`, an open heap of sixteen tasks with the steps of its last call that counts any and the handles that C has: its state, as
-- contracts see it.
use Rattle.std.specs.Prelude.{ℕ, List, refl}
use Rattle.std.specs.Coded.{Coded, code_by, coded×, coded_list, coded_ℕ}
use Rattle.quota_heap.specs.State.{QuotaState, tasks_state_code}

-- the state of a `HeldTasks`: that of its heap; the steps of its last call that counts them, 0 at first; and for each task C's handles, by the
-- number of the object
pub record TasksState : Type 0 where
  pub heap : QuotaState
  pub steps : ℕ
  pub handles : List (List ℕ)

-- the conversion of the state to nested pairs and back, which the trait `Model` needs
abbrev pub tasks_code : Coded TasksState
tasks_code = code_by (QuotaState × (ℕ × List (List ℕ))) (coded× tasks_state_code (coded× coded_ℕ (coded_list (coded_list coded_ℕ)))) (λ h. (h.heap, (h.steps, h.handles)))
    (λ q. record { heap = q.0; steps = q.1.0; handles = q.1.1 }) (λ _. refl)
