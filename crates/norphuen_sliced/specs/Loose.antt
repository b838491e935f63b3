-- `LooseHeld`, the fields of a `Held`, which is an open sliced heap for C, without its invariant: the words of the region in them, the fields with other words
-- in the region, when fields are those of a `Held` and of which state, and how the words of a `Held` are lent (`sliced_lending`).
use Rattle.std.specs.Prelude.{ℕ, IsTrue, List, Option, Some, None, length}
use Rattle.region.specs.Lending.{with_words}
use Rattle.sliced_heap.specs.Shown.{IsValidSlicedIn, sliced_shown}
use Rattle.sliced_heap.specs.declared.open_heap.OpenHeap.{OpenHeap}
use Rattle.c_base.specs.Handles.{largest}
use Rattle.c_base.specs.Lending.{Lending}
use Rattle.norphuen_sliced.specs.HeldState.{SlicedHeldState}
use Rattle.norphuen_sliced.specs.declared.loose.LooseHeld.{LooseHeld}

-- the words of the region; no words if the heap is closed
abbrev pub sliced_words_in : Option OpenHeap → List ℕ
sliced_words_in o = (sliced_shown o).words

-- the words of the region of the heap in the fields a; no words if the heap is closed
abbrev pub sliced_loose_words : LooseHeld → List ℕ
sliced_loose_words a = sliced_words_in a.heap.inner

-- the heap with the words ws in its region
abbrev pub sliced_region_all : OpenHeap → List ℕ → OpenHeap
sliced_region_all h ws = record h { region = with_words h.region 0 (length h.region) ws }

-- the heap, if there is one, with the words ws in its region
abbrev pub sliced_inner_all : Option OpenHeap → List ℕ → Option OpenHeap
sliced_inner_all None ws = None
sliced_inner_all (Some h) ws = Some (sliced_region_all h ws)

-- the fields a, with the words ws in the region of their heap
abbrev pub sliced_held_all : LooseHeld → List ℕ → LooseHeld
sliced_held_all a ws = record a { heap = record a.heap { inner = sliced_inner_all a.heap.inner ws } }

-- the state of a `Held` with the fields a
abbrev pub sliced_loose_state : LooseHeld → SlicedHeldState
sliced_loose_state a = record { heap = sliced_shown a.heap.inner; steps = a.steps; handles = a.handles }

-- the fields a are those of a `Held`: the heap is valid and open
pub record FitsSliced (a : LooseHeld) : Type 0 where
  pub valid : IsValidSlicedIn a.heap.inner
  pub open_now : IsTrue (sliced_shown a.heap.inner).is_open

-- the loan of the words of a `Held`
abbrev pub sliced_lending : Lending SlicedHeldState LooseHeld
sliced_lending = record { words = λ h. h.heap.words; with_words = sliced_held_all; fits = FitsSliced; state = sliced_loose_state; last = λ h. largest h.handles }
