-- For `LooseTag`, the fields of a `Held` over a manager with blocks: the words of the region, the same fields with other words in the region, the state that
-- the fields show, and for each free-list rule (`Rule`) when the fields are those of a `Held` (`Fits`). Together these say how a `Held` lends its words
-- (`lending`).
use Rattle.std.specs.Prelude.{ℕ, List, [], Option, Some, None, length}
use Rattle.cf_base.specs.declared.kind.Kind.{Kind}
use Rattle.region.specs.Lending.{with_words}
use Rattle.block_model.specs.Buckets.{FreeLists}
use Rattle.cf_model.specs.State.{HeapState}
use Rattle.tag_blocks.specs.Blocks.{Tagged}
use Rattle.tag_blocks.specs.Layout.{IsValid as AreValidBlocks}
use Rattle.tag_blocks.specs.ListHeads.{AreMarkedCells}
use Rattle.tag_blocks.specs.Tags.{blocks_of, lists_of}
use Rattle.tag_heap.specs.Heap.{Heap, IsKeptIn, IsValid, tag_state_in}
use Rattle.c_base.specs.Handles.{largest}
use Rattle.c_base.specs.Lending.{Lending}
use Rattle.held_heap.specs.HeldState.{HeldState, IsOpenOfKind}
use Rattle.held_heap.specs.declared.loose_tag.LooseBlocks.{LooseBlocks}
use Rattle.held_heap.specs.declared.loose_tag.LooseOpen.{LooseOpen}
use Rattle.held_heap.specs.declared.loose_tag.LooseTag.{LooseTag}

-- the free-list rule of a kind with blocks: the kind, the lists, and how many there are
pub record Rule : Type 0 where
  pub kind : Kind
  pub lists : FreeLists
  pub count : ℕ

-- the words of the region of what a manager holds, an open heap or none; no words if none
abbrev pub tag_region_in : Option LooseOpen → List ℕ
tag_region_in None = []
tag_region_in (Some h) = h.blocks.region

-- the words of the region of the heap with the fields a; none if it is closed
abbrev pub loose_words : LooseTag → List ℕ
loose_words a = tag_region_in a.heap.inner

-- the blocks with the words ws in their region
abbrev pub blocks_all : LooseBlocks → List ℕ → LooseBlocks
blocks_all t ws = record t { region = with_words t.region 0 (length t.region) ws }

-- the open heap with the words ws in its region
abbrev pub open_all : LooseOpen → List ℕ → LooseOpen
open_all h ws = record h { blocks = blocks_all h.blocks ws }

-- what a manager holds, an open heap or none, with the words ws in its region
abbrev pub inner_all : Option LooseOpen → List ℕ → Option LooseOpen
inner_all None ws = None
inner_all (Some h) ws = Some (open_all h ws)

-- the fields a with the words ws in the region of the heap
abbrev pub held_all : LooseTag → List ℕ → LooseTag
held_all a ws = record a { heap = record a.heap { inner = inner_all a.heap.inner ws } }

-- the blocks that these fields show
abbrev pub seen_blocks : LooseBlocks → Tagged
seen_blocks t = record { words = t.region; blocks = blocks_of t.region; lists = lists_of t.region t.heads.addresses }

-- the open heap that these fields show
abbrev pub seen_heap : LooseOpen → Heap
seen_heap h = record { settings = h.settings; tagged = seen_blocks h.blocks; proxies = h.proxies; asked = h.asked; used_words = h.used_words; cost = h.cost }

-- the heap that the fields of an open heap show, if there are any
abbrev pub seen_in : Option LooseOpen → Option Heap
seen_in None = None
seen_in (Some h) = Some (seen_heap h)

-- the state of a manager of this kind that holds these fields of an open heap, or none
abbrev pub state_seen : Kind → Option LooseOpen → HeapState
state_seen kind o = tag_state_in kind (seen_in o)

-- the fields are those of valid blocks
pub record FitBlocks (rule : Rule) (t : LooseBlocks) : Type 0 where
  pub marked : AreMarkedCells t.heads.addresses t.heads.lists t.heads.groups
  pub valid : AreValidBlocks rule.lists rule.count (record { words = t.region; heads = t.heads.addresses; used = t.used; free = t.free })

-- the fields are those of a valid open heap
pub record FitOpen (rule : Rule) (h : LooseOpen) : Type 0 where
  pub blocks : FitBlocks rule h.blocks
  pub valid : IsValid rule.kind (seen_heap h)

-- the fields are those of a valid heap, open or closed
abbrev pub FitIn : Rule → Option LooseOpen → Type 0
FitIn rule None = Unit {0}
FitIn rule (Some h) = FitOpen rule h

-- the state of a `Held` with the fields a
abbrev pub loose_state_of : Kind → LooseTag → HeldState
loose_state_of kind a = record { heap = state_seen kind a.heap.inner; steps = a.steps; handles = a.handles; counts = a.counts }

-- the fields a are those of a `Held`: the heap is valid and open
pub record Fits (rule : Rule) (a : LooseTag) : Type 0 where
  pub valid : FitIn rule a.heap.inner
  pub rules : IsKeptIn rule.kind (seen_in a.heap.inner)
  pub open_now : IsOpenOfKind rule.kind (state_seen rule.kind a.heap.inner)

-- how a `Held` over a manager with this free-list rule lends its words: its words, its fields and its largest handle
abbrev pub lending : Rule → Lending HeldState LooseTag
lending rule = record { words = λ h. h.heap.words; with_words = held_all; fits = Fits rule; state = loose_state_of rule.kind; last = λ h. largest h.handles }
