-- For `Held`, an open heap with the steps of its last call that counts any, the handles that C has, and what it counted since its opening: its state, as
-- contracts see it. Also that a manager is open and of a kind (`IsOpenOfKind`).
use Rattle.std.specs.Prelude.{◌≡◌, ℕ, List, IsTrue, refl}
use Rattle.std.specs.Coded.{Coded, code_by, coded×, coded_list, coded_ℕ}
use Rattle.c_base.specs.contracts.results.NphCounted as counts
use Rattle.c_base.specs.declared.results.NphCounted.{NphCounted}
use Rattle.cf_base.specs.declared.kind.Kind.{Kind}
use Rattle.cf_model.specs.State.{HeapState, state_code}

-- the heap s is open, and of the kind `of_kind`
pub record IsOpenOfKind (of_kind : Kind) (s : HeapState) : Type 0 where
  pub open_now : IsTrue s.is_open
  pub kind : s.kind ≡ of_kind

-- the state of a `Held`: that of its heap; the steps of its last call that counts them, 0 at first; C's handles, by the number of the object; and what the heap
-- has counted since its opening
pub record HeldState : Type 0 where
  pub heap : HeapState
  pub steps : ℕ
  pub handles : List ℕ
  pub counts : NphCounted

-- the state as pairs, which the trait `Model` needs
abbrev pub held_code : Coded HeldState
held_code = code_by (HeapState × (ℕ × (List ℕ × NphCounted))) (coded× state_code (coded× coded_ℕ (coded× (coded_list coded_ℕ) counts.the_row.coded)))
    (λ h. (h.heap, (h.steps, (h.handles, h.counts)))) (λ q. record { heap = q.0; steps = q.1.0; handles = q.1.1.0; counts = q.1.1.1 }) (λ _. refl)
