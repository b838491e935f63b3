-- For `Held`, an open heap of long objects with the steps of its last call that counts any, and the handles that C has: its state, as contracts see it.
use Rattle.std.specs.Prelude.{ℕ, List, refl}
use Rattle.std.specs.Coded.{Coded, code_by, coded×, coded_list, coded_ℕ}
use Rattle.large_objects.specs.Large.{LargeState, large_code}

-- the state of the heap; the steps of the last call that counts them; and, by the number of an object, the handle that C has for it
pub record LargeHeldState : Type 0 where
  pub heap : LargeState
  pub steps : ℕ
  pub handles : List ℕ

-- the state as pairs, which the trait `Model` needs
abbrev pub large_held_code : Coded LargeHeldState
large_held_code = code_by (LargeState × (ℕ × List ℕ)) (coded× large_code (coded× coded_ℕ (coded_list coded_ℕ))) (λ h. (h.heap, (h.steps, h.handles)))
    (λ q. record { heap = q.0; steps = q.1.0; handles = q.1.1 }) (λ _. refl)
