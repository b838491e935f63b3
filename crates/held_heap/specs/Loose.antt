-- For `LooseHeld`, the fields of a `Held` of the moving manager: the words of the region, the same fields with other words in the region, the state of a `Held`
-- with these fields, and when the fields are those of a `Held` (`Fits`). Together these say how a `Held` lends its words (`lending`).
use Rattle.std.specs.Prelude.{ℕ, List, Option, Some, None, length}
use Rattle.cf_base.specs.declared.kind.Kind.TheVariants.{Moving}
use Rattle.region.specs.Lending.{with_words}
use Rattle.paged_heap.specs.Layout.{IsValidIn, state_in}
use Rattle.paged_heap.specs.PagedState.{region_in}
use Rattle.paged_heap.specs.declared.open_heap.OpenHeap.{OpenHeap}
use Rattle.c_base.specs.Handles.{largest}
use Rattle.c_base.specs.Lending.{Lending}
use Rattle.held_heap.specs.HeldState.{HeldState, IsOpenOfKind}
use Rattle.held_heap.specs.declared.loose.LooseHeld.{LooseHeld}

-- the words of the region; none if the heap is closed
abbrev pub loose_words : LooseHeld → List ℕ
loose_words a = region_in a.heap.inner

-- the heap with the words ws in its region
abbrev pub region_all : OpenHeap → List ℕ → OpenHeap
region_all h ws = record h { region = with_words h.region 0 (length h.region) ws }

-- what a manager holds, an open heap or none, with the words ws in its region
abbrev pub inner_all : Option OpenHeap → List ℕ → Option OpenHeap
inner_all None ws = None
inner_all (Some h) ws = Some (region_all h ws)

-- the fields a with the words ws in the region of the heap
abbrev pub held_all : LooseHeld → List ℕ → LooseHeld
held_all a ws = record a { heap = record a.heap { inner = inner_all a.heap.inner ws } }

-- the state of a `Held` with the fields a
abbrev pub loose_state_of : LooseHeld → HeldState
loose_state_of a = record { heap = state_in Moving a.heap.inner; steps = a.steps; handles = a.handles; counts = a.counts }

-- the fields a are those of a `Held`: the heap is valid and open
pub record Fits (a : LooseHeld) : Type 0 where
  pub valid : IsValidIn Moving a.heap.inner
  pub open_now : IsOpenOfKind Moving (state_in Moving a.heap.inner)

-- how a `Held` of the moving manager lends its words: its words, its fields and its largest handle
abbrev pub lending : Lending HeldState LooseHeld
lending = record { words = λ h. h.heap.words; with_words = held_all; fits = Fits; state = loose_state_of; last = λ h. largest h.handles }
