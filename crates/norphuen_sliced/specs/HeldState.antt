-- For `Held`, an open sliced heap with the steps of its last call that counts any and the handles that C has: its state, as
-- contracts see it.
use Rattle.std.specs.Prelude.{ℕ, List, refl}
use Rattle.std.specs.Coded.{Coded, code_by, coded×, coded_list, coded_ℕ}
use Rattle.sliced_heap.specs.Shown.{SlicedState, sliced_code}

-- the state of a `Held`: that of its heap; the steps of its last call that counts them, 0 at first; and C's handles, by the number
-- of the object
pub record SlicedHeldState : Type 0 where
  pub heap : SlicedState
  pub steps : ℕ
  pub handles : List ℕ

-- the conversion of the state to nested pairs and back, which the trait `Model` needs
abbrev pub sliced_held_code : Coded SlicedHeldState
sliced_held_code = code_by (SlicedState × (ℕ × List ℕ)) (coded× sliced_code (coded× coded_ℕ (coded_list coded_ℕ))) (λ h. (h.heap, (h.steps, h.handles)))
    (λ q. record { heap = q.0; steps = q.1.0; handles = q.1.1 }) (λ _. refl)
