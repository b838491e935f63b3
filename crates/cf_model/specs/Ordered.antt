-- What a manager promises of each call: it neither adds nor removes an order; with an order, the call uses what the order lists next, at a cost computed from
-- states and result. A call leads from the state `old` to `new` and from the order `was` to `now`, and returns `answer`.
use Rattle.std.specs.Prelude.{◌≡◌, ℕ, ⊤, IfOk, IfSome, List, ◌∷◌, Option, None, Some, Result, is_some}
use Rattle.cf_base.specs.declared.results.Freed.{Freed}
use Rattle.cf_base.specs.declared.results.Handle.{Handle}
use Rattle.cf_base.specs.declared.results.NotLive.{NotLive}
use Rattle.cf_base.specs.declared.results.Refusal.{Refusal}
use Rattle.cf_base.specs.declared.results.Resized.{Resized}
use Rattle.cf_base.specs.declared.results.ResizeFault.{ResizeFault}
use Rattle.page_model.specs.Order.{Order, FreeFollows, MallocFollows, ResizeFollows}
use Rattle.page_model.specs.Steps.{Request}
use Rattle.cf_model.specs.Answers.{place_of}
use Rattle.block_model.specs.FreeOrder.{CarvesNext, lists_released}
use Rattle.block_model.specs.Tiling.{block_need}
use Rattle.cf_model.specs.ExactCosts.{block_free_cost, block_malloc_cost, free_cost, malloc_cost, resize_cost}
use Rattle.cf_model.specs.Families.{paged, tiled, family_of, free_lists_of}
use Rattle.cf_model.specs.Rules.{listed_by}
use Rattle.cf_model.specs.State.{HeapState, paging_in}
use Rattle.cf_model.specs.Steps.{number_of}

-- If a manager has an order before a call, it has one afterwards, and `step` relates the two. If it has none before, it has none afterwards, and nothing else
-- is claimed.
abbrev pub Follows : (Order → Order → Type 0) → Option Order → Option Order → Type 0
Follows step None None = ⊤
Follows step None (Some new) = ⊥
Follows step (Some old) None = ⊥
Follows step (Some old) (Some new) = step old new

-- a call that leads from the state `old` to `new` of a manager, open or closed, neither adds nor removes its promise of an order
abbrev pub KeepsPromise : HeapState → HeapState → Type 0
KeepsPromise old new = is_some new.order ≡ is_some old.order

-- With pages, a malloc of `bytes` bytes: if it succeeds, it uses the number and the slot that the order lists next. Refused or not, its cost is `malloc_cost`.
pub record MallocInOrder (old : HeapState) (bytes : ℕ) (answer : Result Handle Refusal) (new : HeapState) (was now : Order) : Type 0 where
  pub choice : IfOk answer (λ h. IfSome (place_of new h.0) (λ a. MallocFollows (paging_in old) old.held (record { number = h.0; length = bytes }) a was now))
  pub cost : new.cost ≡ malloc_cost old was bytes answer

-- With pages, a free of object h: if it succeeds and moves an object, that is the next one of the order, and the freed number becomes the next one. Refused or
-- not, its cost is `free_cost`.
pub record FreeInOrder (old : HeapState) (h : ℕ) (answer : Result Freed NotLive) (new : HeapState) (was now : Order) : Type 0 where
  pub choice : IfOk answer (λ freed. FreeFollows (paging_in old) old.held h (number_of freed.moved) was now)
  pub cost : new.cost ≡ free_cost old was h answer

-- With pages, a resize: if it succeeds and changes the class, it uses the next slot and moves the next object of the order, if it moves one. Refused or not,
-- its cost is `resize_cost`.
pub record ResizeInOrder (old : HeapState) (asked : Request) (answer : Result Resized ResizeFault) (new : HeapState) (was now : Order) : Type 0 where
  pub choice : IfOk answer (λ done. ResizeFollows (paging_in old) old.held asked (record { held = new.held; moved = number_of done.moved }) was now)
  pub cost : new.cost ≡ resize_cost old was asked answer

-- With blocks, the object `asked` gets the first spare number. Its block is carved at `place`, from the free block that is next by the lists of the order. The
-- order `now` has the lists after the carve, and the other spare numbers.
pub record CarvesInOrder (old : HeapState) (asked : Request) (place : ℕ) (new : HeapState) (was now : Order) : Type 0 where
  pub rest : List ℕ
  pub number : was.spare ≡ asked.number ∷ rest
  pub carves : CarvesNext (free_lists_of old.kind) (listed_by old was) (record { need = block_need asked.length; owner = asked.number }) place (listed_by new now)
  pub left : now ≡ record was { not_full = now.not_full; spare = rest }

-- With blocks, a malloc of `bytes` bytes: if it succeeds, its number and block are those of `CarvesInOrder`. Refused or not, its cost is `block_malloc_cost`.
pub record BlockMallocInOrder (old : HeapState) (bytes : ℕ) (answer : Result Handle Refusal) (new : HeapState) (was now : Order) : Type 0 where
  pub choice : IfOk answer (λ h. IfSome (place_of new h.0) (λ a. CarvesInOrder old (record { number = h.0; length = bytes }) a new was now))
  pub cost : new.cost ≡ block_malloc_cost old bytes answer new

-- With blocks, a free of object h: if it succeeds, the free block that results becomes the first of its list, and the freed number the first spare one.
-- Refused or not, its cost is `block_free_cost`.
pub record BlockFreeInOrder (old : HeapState) (h : ℕ) (answer : Result Freed NotLive) (new : HeapState) (was now : Order) : Type 0 where
  pub choice : IfOk answer (λ freed. IfSome (place_of old h) (λ a. now ≡ record was {
    not_full = lists_released (free_lists_of old.kind) (listed_by old was) a;
    spare = h ∷ was.spare;
  }))
  pub cost : new.cost ≡ block_free_cost old h answer new

-- a malloc of `bytes` bytes keeps to the orders `was` and `now` as `MallocInOrder` says with pages, and `BlockMallocInOrder` with blocks
abbrev pub MallocByOrder : HeapState → ℕ → Result Handle Refusal → HeapState → Order → Order → Type 0
MallocByOrder old bytes answer new was now = elim (family_of old.kind) [
  | paged ↦ MallocInOrder old bytes answer new was now
  | tiled ↦ BlockMallocInOrder old bytes answer new was now
]

-- a free of object h keeps to the orders `was` and `now` as `FreeInOrder` says with pages, and `BlockFreeInOrder` with blocks
abbrev pub FreeByOrder : HeapState → ℕ → Result Freed NotLive → HeapState → Order → Order → Type 0
FreeByOrder old h answer new was now = elim (family_of old.kind) [
  | paged ↦ FreeInOrder old h answer new was now
  | tiled ↦ BlockFreeInOrder old h answer new was now
]

-- a resize keeps to the orders `was` and `now` as `ResizeInOrder` says with pages; with blocks it is always refused, and leaves the order unchanged
abbrev pub ResizeByOrder : HeapState → Request → Result Resized ResizeFault → HeapState → Order → Order → Type 0
ResizeByOrder old asked answer new was now = elim (family_of old.kind) [
  | paged ↦ ResizeInOrder old asked answer new was now
  | tiled ↦ now ≡ was
]

-- clause `ordered` of `Manager::malloc`: if the manager has an order, a malloc of `bytes` bytes follows it; if it has none, it has none afterwards
abbrev pub IsOrderedMalloc : HeapState → ℕ → Result Handle Refusal → HeapState → Type 0
IsOrderedMalloc old bytes answer new = Follows (MallocByOrder old bytes answer new) old.order new.order

-- clause `ordered` of `Manager::free`: if the manager has an order, a free of object h follows it; if it has none, it has none afterwards
abbrev pub IsOrderedFree : HeapState → ℕ → Result Freed NotLive → HeapState → Type 0
IsOrderedFree old h answer new = Follows (FreeByOrder old h answer new) old.order new.order

-- clause `ordered` of `Manager::resize`: if the manager has an order, a resize follows it; if it has none, it has none afterwards
abbrev pub IsOrderedResize : HeapState → Request → Result Resized ResizeFault → HeapState → Type 0
IsOrderedResize old asked answer new = Follows (ResizeByOrder old asked answer new) old.order new.order
