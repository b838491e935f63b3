-- For the clauses of `OpenHeap`: an open heap as the model sees it (its objects, tables, order, pages and classes); the state of a manager (`HeapState`) that
-- an open or a closed heap shows; and the heap's invariant (`IsValid`, and with its region `Holds`).
use Rattle.std.specs.Prelude.{◌≡◌, ℕ, ◌*◌, ◌≤◌, ◌<◌, [], true, Option, Some, None, length, take, slice_index}
use Rattle.cf_base.specs.Settings.{profile_of}
use Rattle.cf_base.specs.declared.kind.Kind.{Kind}
use Rattle.cf_base.specs.declared.kind.Kind.TheVariants.{Moving, NonMoving, Tlsf, HalfFit}
use Rattle.page_model.specs.Held.{Held, objects}
use Rattle.page_model.specs.Paging.{Paging, classes}
use Rattle.page_model.specs.Arrangement.{IsSound, live}
use Rattle.page_model.specs.Bytes.{held_at}
use Rattle.page_model.specs.Figures.{asked_bytes, taken_bytes}
use Rattle.page_model.specs.Frames.{IsPermuted}
use Rattle.page_model.specs.Image.{IsSlotImage}
use Rattle.page_model.specs.Order.{Order}
use Rattle.size_classes.specs.Table.{table_of}
use Rattle.proxy_table.specs.Proxies.{AreBelowLimit}
use Rattle.page_slots.specs.Owner.{Owner}
use Rattle.page_slots.specs.Tables.{Tables, tables}
use Rattle.page_slots.specs.Occupying.{Occupies, FitPages}
use Rattle.page_slots.specs.Orders.{order_of}
use Rattle.cf_model.specs.State.{HeapState, closed_state, layout_of, paging_in}
use Rattle.virtual_words.specs.Words.{FitTable}
use Rattle.paged_heap.specs.declared.open_heap.OpenHeap.{OpenHeap}
use Rattle.paged_heap.specs.Heap.{Heap, seen}

-- the live objects by number; the words at each address hold the object's length and bytes
abbrev pub held_in : Heap → Held
held_in h = held_at h.words h.proxies.places

-- the tables of the heap as `page_slots` sees them: the used slots of each page, the page lists, and the free pages
abbrev pub tables_in : Heap → Tables
tables_in h = tables h.maps h.lists h.pool

-- the order of the heap: the pages that its tables use next, and its free numbers, the next one first
abbrev pub order_in : Heap → Order
order_in h = order_of (length h.classes.sizes) (tables_in h) h.proxies.free

-- the state of a manager whose open heap is h
abbrev pub state_of : Heap → HeapState
state_of h = record {
  kind = h.kind;
  is_open = true;
  profile = profile_of h.settings;
  bounds = take (length h.classes.sizes) h.bounds;
  held = held_in h;
  words = h.words;
  frames = h.frames;
  tiling = [];
  order = Some (order_in h);
  cost = h.cost;
}

-- the number and size of the pages of the heap, its slot sizes and its bounds
abbrev pub paging_at : Heap → Paging
paging_at h = paging_in (state_of h)

-- the heap as an owner of pages
abbrev pub owner_in : Heap → Owner
owner_in h = record {
  paging = paging_at h;
  classes = h.classes;
  bound = slice_index h.bounds;
  words = h.words;
  places = h.proxies.places;
  tables = tables_in h;
}

-- the block table is a permutation of the blocks of four words that the region has
pub record AreMapped (h : Heap) : Type 0 where
  pub count : 4 * length h.frames ≡ length h.words
  pub permuted : IsPermuted h.frames

-- the heap has the block table that its kind needs: the non-moving kind has one, the moving kind none; kinds with blocks have no such heap
abbrev pub IsFramed : Kind → Heap → Type 0
IsFramed Moving h = h.frames ≡ []
IsFramed NonMoving h = AreMapped h
IsFramed Tlsf h = ⊥
IsFramed HalfFit h = ⊥

-- The invariant of an open heap.
pub record IsValid (h : Heap) : Type 0 where
  -- the block table, if the kind has one
  pub framed : IsFramed h.kind h
  -- the size classes are those of the pages and of the kind
  pub table : h.classes ≡ table_of h.settings.page_words (layout_of h.kind)
  pub words_long : length h.words ≡ h.settings.pages * h.settings.page_words
  -- the words are those of the objects, and zeros elsewhere
  pub image : IsSlotImage (paging_at h) (held_in h) h.words
  -- the arrangement is sound: each object is in a slot of its class, and no class has more partly full pages than its bound
  pub sound : IsSound (paging_at h) (held_in h)
  -- the tables have the heap's pages and classes, and no page is foreign
  pub serve : FitPages (paging_at h) (tables_in h)
  -- the used slots of the tables are those of the objects
  pub occupied : Occupies (paging_at h) (held_in h) (tables_in h)
  -- the numbers of the objects are below the number of proxies
  pub numbers : h.proxies.limit ≡ h.settings.proxies
  pub handles : AreBelowLimit h.proxies
  -- each class has a bound from 1 to 64
  pub bounds_long : length h.bounds ≡ 128
  pub some_bound : (c : ℕ) → c < 128 → 1 ≤ slice_index h.bounds c
  pub low_bound : (c : ℕ) → c < 128 → slice_index h.bounds c ≤ 64
  -- the counts are those of the objects: how many each class has, their bytes, and those of their slots
  pub live_long : length h.live ≡ 128
  pub counted : (c : ℕ) → c < classes (paging_at h) → slice_index h.live c ≡ live (paging_at h) (objects (held_in h)) c
  pub asked_all : h.asked ≡ asked_bytes (objects (held_in h))
  pub taken_all : h.taken ≡ taken_bytes (paging_at h) (objects (held_in h))

-- the invariant of an open heap in memory: its region and block table fit its kind, and as definitions see it (`Heap`) it keeps `IsValid`
pub record Holds (kind : Kind) (h : OpenHeap) : Type 0 where
  pub laid : FitTable kind h.blocks h.region
  pub kept : IsValid (seen kind h)

-- the state of a manager whose heap h is open
abbrev pub state_at : Kind → OpenHeap → HeapState
state_at kind h = state_of (seen kind h)

-- the state of a manager whose heap is open, or closed (`None`)
abbrev pub state_in : Kind → Option OpenHeap → HeapState
state_in kind None = closed_state kind
state_in kind (Some h) = state_at kind h

-- the invariant of a manager's heap, which is open, or closed (`None`): then nothing is required
abbrev pub IsValidIn : Kind → Option OpenHeap → Type 0
IsValidIn kind None = Unit {0}
IsValidIn kind (Some h) = Holds kind h
