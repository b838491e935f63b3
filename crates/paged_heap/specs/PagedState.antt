-- What contracts see of a manager with pages: the state that every manager has, and the physical words of its region; which word is which by the block table,
-- and that the words of other objects stay in place.
use Rattle.std.specs.Prelude.{◌≡◌, ◌≢◌, ℕ, ◌+◌, ◌*◌, ◌/◌, ◌<◌, ⊤, List, [], Option, Some, None, length, slice_index, refl}
use Rattle.std.specs.Coded.{Coded, code_by, coded×, coded_ℕ, coded_list}
use Rattle.std.specs.FinMap.{get}
use Rattle.cf_base.specs.declared.kind.Kind.{Kind}
use Rattle.cf_base.specs.declared.kind.Kind.TheVariants.{Moving, NonMoving, Tlsf, HalfFit}
use Rattle.cf_model.specs.State.{HeapState, paging_in, state_code}
use Rattle.page_model.specs.Frames.{IsPhysical, block_of}
use Rattle.page_model.specs.Held.{Placed}
use Rattle.page_model.specs.Image.{slot_for}
use Rattle.paged_heap.specs.declared.open_heap.OpenHeap.{OpenHeap}
use Rattle.paged_heap.specs.Layout.{state_in}

-- What contracts see of a manager with pages, open or closed.
pub record PagedState : Type 0 where
  -- the state that every manager has; with a block table its words are the virtual ones
  pub state : HeapState
  -- the words of the region in order; none while the manager is closed
  pub physical : List ℕ

-- the state as a pair, which the trait `Model` needs
abbrev pub paged_code : Coded PagedState
paged_code = code_by (HeapState × List ℕ) (coded× state_code (coded_list coded_ℕ)) (λ s. (s.state, s.physical))
    (λ q. record { state = q.0; physical = q.1 }) (λ _. refl)

-- the words of the region of a heap, in order; none while it is closed
abbrev pub region_in : Option OpenHeap → List ℕ
region_in None = []
region_in (Some h) = h.region

-- what contracts see of a manager of this kind whose heap is open, or closed (`None`)
abbrev pub paged_in : Kind → Option OpenHeap → PagedState
paged_in kind o = record { state = state_in kind o; physical = region_in o }

-- word `4 * F(v) + j` of the region is the virtual word `4 * v + j`, where F is the block table
abbrev pub IsMappedByItsTable : PagedState → Type 0
IsMappedByItsTable s = IsPhysical s.state.frames s.state.words s.physical

-- From the state `old` to `new`, no physical word changes in the blocks of an object other than h that is live in both.
abbrev pub OthersStayInPlace : PagedState → ℕ → PagedState → Type 0
OthersStayInPlace old h new = (q : ℕ) (x y : Placed) → q ≢ h → get old.state.held q ≡ Some x → get new.state.held q ≡ Some y → (i j : ℕ)
    → i < slot_for (paging_in old.state) (length x.bytes) / 4 → j < 4
    → slice_index new.physical (4 * block_of old.state.frames x.place i + j) ≡ slice_index old.physical (4 * block_of old.state.frames x.place i + j)

-- `OthersStayInPlace` for the non-moving kind; the moving kind, which copies words, claims nothing, nor do the kinds
-- with blocks
abbrev pub OthersStayIn : Kind → PagedState → ℕ → PagedState → Type 0
OthersStayIn Moving old h new = ⊤
OthersStayIn NonMoving old h new = OthersStayInPlace old h new
OthersStayIn Tlsf old h new = ⊤
OthersStayIn HalfFit old h new = ⊤
