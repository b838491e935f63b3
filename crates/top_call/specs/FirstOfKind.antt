-- The first manager of a kind in a list of managers, which mode `run` uses, or a closed one if there is none; and the list of managers with another state in
-- its place.
use Rattle.std.specs.Prelude.{ℕ, Bool, true, false, List, Option, Some, None, slice_index_or, slice_set}
use Rattle.std.specs.List.{position}
use Rattle.run_model.specs.Terms.{closed_state, HalfFit, HeapState, Kind, Moving, NonMoving, Tlsf}

-- whether the two kinds are the same
abbrev pub same_kind : Kind → Kind → Bool
same_kind Moving Moving = true
same_kind NonMoving NonMoving = true
same_kind Tlsf Tlsf = true
same_kind HalfFit HalfFit = true
same_kind one other = false

-- the index of the first manager of the kind in the list; None if there is none
abbrev pub first_of_kind : Kind → List HeapState → Option ℕ
first_of_kind kind heaps = position (λ h. same_kind h.kind kind) heaps

-- the first manager of the kind; if there is none, one that was never open
abbrev pub chosen_manager : Kind → List HeapState → HeapState
chosen_manager kind heaps = elim (first_of_kind kind heaps) [ None ↦ closed_state kind | Some i ↦ slice_index_or heaps i (closed_state kind) ]

-- the list of managers in which `new` replaces the first manager of the kind; unchanged if none is of the kind
abbrev pub with_chosen_manager : Kind → List HeapState → HeapState → List HeapState
with_chosen_manager kind heaps new = elim (first_of_kind kind heaps) [ None ↦ heaps | Some i ↦ slice_set heaps i new ]
