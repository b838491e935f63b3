-- What each call of a manager does, also its opening and its close, as a relation between the state `old` before it and the state `new` after it.
-- `IsMallocStep`, `IsFreeStep`, `IsWriteStep`, `IsReadAnswer` and `IsResizeStep` are the whole calls, with their refusals.
use Rattle.std.specs.Prelude.{◌≡◌, ◌≢◌, ℕ, ◌+◌, ◌*◌, ◌/◌, ◌≤◌, ◌<◌, List, [], Option, Some, None, Result, Ok, Err, ⊤, true, false, length, take, drop}
use Rattle.std.specs.Prelude.{replicate, slice_index, option_map}
use Rattle.std.specs.FinMap.{get, insert, remove, len, empty}
use Rattle.std.specs.List.{range_with_len}
use Rattle.cf_base.specs.Classes.{need}
use Rattle.cf_base.specs.Settings.{Profile, profile_of}
use Rattle.cf_base.specs.declared.results.AccessFault.{AccessFault}
use Rattle.cf_base.specs.declared.results.AccessFault.TheVariants as access
use Rattle.cf_base.specs.declared.results.Freed.{Freed}
use Rattle.cf_base.specs.declared.results.Handle.{Handle}
use Rattle.cf_base.specs.declared.results.NotLive.{NotLive}
use Rattle.cf_base.specs.declared.results.Refusal.{Refusal}
use Rattle.cf_base.specs.declared.results.Refusal.TheVariants as refusal
use Rattle.cf_base.specs.declared.results.Resized.{Resized}
use Rattle.cf_base.specs.declared.results.ResizeFault.{ResizeFault}
use Rattle.cf_base.specs.declared.results.ResizeFault.TheVariants as resize
use Rattle.cf_base.specs.declared.kind.Kind.{Kind}
use Rattle.cf_base.specs.declared.kind.Kind.TheVariants.{Moving, NonMoving, Tlsf, HalfFit}
use Rattle.cf_base.specs.declared.settings.Settings.{Settings}
use Rattle.page_model.specs.Held.{Placed, objects}
use Rattle.page_model.specs.Paging.{class_for, first_bounds}
use Rattle.page_model.specs.Arrangement.{class_at, LacksRoom}
use Rattle.page_model.specs.Bytes.{written}
use Rattle.page_model.specs.Frames.{first_frames, frames_after, block_of, IsPhysical}
use Rattle.page_model.specs.Image.{IsOutside, slot_for}
use Rattle.page_model.specs.Order.{Order, first_order}
use Rattle.page_model.specs.Steps.{Request, CallResult, IsFreePlace, zeros_at, Moves, without, resized, RefitsObject as IsResizedBy}
use Rattle.block_model.specs.FreeOrder.{first_lists}
use Rattle.block_model.specs.Tiling.{Block, LacksBlock, Carves, released, one_free_block, block_need, size_at}
use Rattle.cf_model.specs.Families.{paged, tiled, family_of, free_lists_of, list_count_of}
use Rattle.cf_model.specs.State.{HeapState, paging_in, layout_of, region_words}
use Rattle.cf_model.specs.Rules.{IsPaged, IsTiled}

-- `new` has the kind and the settings of `old`, and is open
pub record StaysOpen (old new : HeapState) : Type 0 where
  pub kind : new.kind ≡ old.kind
  pub open_now : new.is_open ≡ true
  pub profile : new.profile ≡ old.profile

-- `new` has the kind, the settings and the bounds of `old`, and is open if and only if `old` is
pub record KeepsSettings (old new : HeapState) : Type 0 where
  pub kind : new.kind ≡ old.kind
  pub opened : new.is_open ≡ old.is_open
  pub profile : new.profile ≡ old.profile
  pub bounds : new.bounds ≡ old.bounds

-- `new` differs from `old` in the cost alone
abbrev pub ChangesCost : HeapState → HeapState → Type 0
ChangesCost old new = new ≡ record old { cost = new.cost }

-- `new` has the kind of `old`, and is closed
pub record IsClosed (old new : HeapState) : Type 0 where
  pub kind : new.kind ≡ old.kind
  pub closed : new.is_open ≡ false

-- the bounds when a heap opens: k of the settings for each class; with blocks there are none
abbrev pub opening_bounds : Kind → Profile → List ℕ
opening_bounds kind p = elim (family_of kind) [ paged ↦ first_bounds p (layout_of kind) | tiled ↦ [] ]

-- the block table when a heap opens: each virtual block is the physical block of the same number; empty for the kinds without a table
abbrev pub opening_frames : Kind → Profile → List ℕ
opening_frames Moving p = []
opening_frames NonMoving p = first_frames (region_words p / 4)
opening_frames Tlsf p = []
opening_frames HalfFit p = []

-- the blocks when a heap opens: with blocks, one free block of the whole region; with pages there are none
abbrev pub opening_tiling : Kind → Profile → List Block
opening_tiling kind p = elim (family_of kind) [ paged ↦ [] | tiled ↦ one_free_block (region_words p) ]

-- The words may be those of a heap when it opens. With pages they are zeros. With blocks nothing is claimed here: the rules (`KeepsRules`) determine all of
-- them but word 1.
abbrev pub IsOpeningWords : Kind → Profile → List ℕ → Type 0
IsOpeningWords kind p words = elim (family_of kind) [ paged ↦ words ≡ replicate (region_words p) 0 | tiled ↦ ⊤ ]

-- the state of an open heap without objects, with the settings p and these words, of a manager that promises no order
abbrev pub empty_heap : Kind → Profile → List ℕ → HeapState
empty_heap kind p words = record {
  kind = kind;
  is_open = true;
  profile = p;
  bounds = opening_bounds kind p;
  held = empty;
  words = words;
  frames =
      opening_frames kind p;
  tiling = opening_tiling kind p;
  order = None;
  cost = 0;
}

-- the state of an open heap without objects, with the settings p, these words, and this order; `None` if the manager promises no order
abbrev pub ordered_heap : Kind → Profile → List ℕ → Option Order → HeapState
ordered_heap kind p words order = record (empty_heap kind p words) { order = order }

-- the order when a heap opens: with pages, all pages and numbers in rising order; with blocks, the one free block in its list, and all numbers in rising order
abbrev pub opening_order : Kind → Profile → Order
opening_order kind p = elim (family_of kind) [
  | paged ↦ first_order (paging_in (empty_heap kind p [])) p.proxies
  | tiled ↦ record {
    pool = [];
    not_full = first_lists (free_lists_of kind) (list_count_of kind) (region_words p);
    spare = range_with_len 0 p.proxies;
  }
]

-- a heap that opens has the opening order; nothing is claimed if the manager promises no order (`None`)
abbrev pub IsOpeningOrder : Kind → Profile → Option Order → Type 0
IsOpeningOrder kind p None = ⊤
IsOpeningOrder kind p (Some order) = order ≡ opening_order kind p

-- `new` is a heap that was just opened with the settings s: it has no objects, and each class has the bound k of the settings
pub record IsEmptyHeap (kind : Kind) (s : Settings) (new : HeapState) : Type 0 where
  pub words : IsOpeningWords kind (profile_of s) new.words
  pub order : IsOpeningOrder kind (profile_of s) new.order
  pub whole : new ≡ ordered_heap kind (profile_of s) new.words new.order

-- the heap s has no space for an object of `bytes` bytes: with pages, its class has no slot left; with blocks, no free block may serve its need
abbrev pub LacksRoomIn : Kind → HeapState → ℕ → Type 0
LacksRoomIn kind s bytes = elim (family_of kind) [
  | paged ↦ LacksRoom (paging_in s) s.held (class_for (paging_in s) bytes)
  | tiled ↦ LacksBlock (free_lists_of kind) s.tiling (block_need bytes)
]

-- the heap s, of whatever kind, has no space for an object of `bytes` bytes
abbrev pub LacksSpaceNow : HeapState → ℕ → Type 0
LacksSpaceNow s bytes = LacksRoomIn s.kind s bytes

-- The object `asked` may be placed at the address `place`: with pages, a slot that its class may use is free there; with blocks, a free block there is carved
-- for it, which leaves the blocks of `new`.
abbrev pub IsPlacedBy : Kind → HeapState → Request → ℕ → HeapState → Type 0
IsPlacedBy kind old asked place new = elim (family_of kind) [
  | paged ↦ IsFreePlace (paging_in old) old.held asked.length place
  | tiled ↦ Carves (free_lists_of kind) old.tiling (record { need = block_need asked.length; owner = asked.number }) place new.tiling
]

-- A malloc succeeds: the object `asked`, of zeros alone, is added at the address `place`, under a number that wasn't live. It fits a page, and a proxy was
-- free. Besides the objects only words, blocks, order and cost may change.
pub record AddsObject (old : HeapState) (asked : Request) (new : HeapState) : Type 0 where
  pub fits : need asked.length ≤ old.profile.page_words
  pub few : len old.held < old.profile.proxies
  pub in_range : asked.number < old.profile.proxies
  pub unused : get old.held asked.number ≡ None
  pub place : ℕ
  pub placed : IsPlacedBy old.kind old asked place new
  pub whole : new ≡ record old {
    held = insert old.held asked.number (zeros_at place asked.length);
    words = new.words;
    tiling = new.tiling;
    order = new.order;
    cost = new.cost;
  }

-- an object of `bytes` bytes would fit a page, but all proxies are in use
pub record LacksProxy (s : HeapState) (bytes : ℕ) : Type 0 where
  pub fits : need bytes ≤ s.profile.page_words
  pub all : len s.held ≡ s.profile.proxies

-- an object of `bytes` bytes would fit a page, and a proxy is free, but there is no space
pub record LacksSpace (s : HeapState) (bytes : ℕ) : Type 0 where
  pub fits : need bytes ≤ s.profile.page_words
  pub few : len s.held < s.profile.proxies
  pub lacking : LacksSpaceNow s bytes

-- the cause of each refusal of a malloc of `bytes` bytes in the state s
abbrev pub IsRefusedBy : HeapState → ℕ → Refusal → Type 0
IsRefusedBy s bytes refusal.Size = s.profile.page_words < need bytes
IsRefusedBy s bytes refusal.Proxy = LacksProxy s bytes
IsRefusedBy s bytes refusal.Space = LacksSpace s bytes

-- a malloc of `bytes` bytes: with `Ok` it adds an object under this handle; with `Err` it is refused for this cause, and changes only the cost
abbrev pub IsMallocStep : HeapState → ℕ → Result Handle Refusal → HeapState → Type 0
IsMallocStep old bytes (Ok h) new = AddsObject old (record { number = h.0; length = bytes }) new
IsMallocStep old bytes (Err e) new = IsRefusedBy old bytes e × ChangesCost old new

-- the number of words of the slot or block of the object x
abbrev pub slot_in : Kind → HeapState → Placed → ℕ
slot_in kind s x = elim (family_of kind) [ paged ↦ slot_for (paging_in s) (length x.bytes) | tiled ↦ size_at s.tiling x.place ]

-- a free of the object x moves the object `moved`, or none: with pages one if and only if it must, with blocks never one
abbrev pub MovesIn : Kind → HeapState → Placed → Option ℕ → Type 0
MovesIn kind s x moved = elim (family_of kind) [ paged ↦ Moves (paging_in s) s.held x moved | tiled ↦ moved ≡ None ]

-- the block table after a free or a resize, which left `after`: the objects, and the number of the object that moved; only the table of the non-moving kind
-- changes, and only if an object moved
abbrev pub frames_left : Kind → HeapState → CallResult → List ℕ
frames_left Moving s after = s.frames
frames_left NonMoving s after = frames_after (paging_in s) s.held after s.frames
frames_left Tlsf s after = s.frames
frames_left HalfFit s after = s.frames

-- the blocks after the one at address `place` is released; with pages there are none
abbrev pub tiling_left : Kind → HeapState → ℕ → List Block
tiling_left kind s place = elim (family_of kind) [ paged ↦ s.tiling | tiled ↦ released s.tiling place ]

-- the number of the handle, if there is one
abbrev pub number_of : Option Handle → Option ℕ
number_of moved = option_map (λ (h : Handle). h.0) moved

-- the objects after a free of object h, which is x, with the number of the object that moved to its address, if one did
abbrev pub call_result : HeapState → ℕ → Placed → Option ℕ → CallResult
call_result old h x moved = record { held = without old.held h x.place moved; moved = moved }

-- A free of object h succeeds with the result `freed`: the object is removed, and the object that moved, if one did, gets the address of the removed one. All
-- objects but h keep their bytes, and those that did not move keep their address. The block table, the blocks, the words, the order and the cost may
-- change too.
pub record FreesObject (old : HeapState) (h : ℕ) (freed : Freed) (new : HeapState) : Type 0 where
  pub object : Placed
  pub found : get old.held h ≡ Some object
  pub slot : freed.slot_words ≡ slot_in old.kind old object
  pub moves : MovesIn old.kind old object (number_of freed.moved)
  pub held : new.held ≡ without old.held h object.place (number_of freed.moved)
  pub left : objects new.held ≡ remove (objects old.held) h
  pub frames : new.frames ≡ frames_left old.kind old (call_result old h object (number_of freed.moved))
  pub tiling : new.tiling ≡ tiling_left old.kind old object.place
  pub rest : KeepsSettings old new

-- a free of object h: with `Ok` it removes the object; with `Err` the object wasn't live, and only the cost changes
abbrev pub IsFreeStep : HeapState → ℕ → Result Freed NotLive → HeapState → Type 0
IsFreeStep old h (Ok freed) new = FreesObject old h freed new
IsFreeStep old h (Err e) new = (get old.held h ≡ None) × ChangesCost old new

-- where a read or a write begins: the object's number, and a byte of the object, counted from 0
pub record Position : Type 0 where
  pub number : ℕ
  pub from : ℕ

-- the object is live, but `position.from` plus `count` exceeds the object's length
pub record PassesEnd (s : HeapState) (position : Position) (count : ℕ) : Type 0 where
  pub object : Placed
  pub found : get s.held position.number ≡ Some object
  pub past : length object.bytes < position.from + count

-- the cause of each refusal of a read or a write of `count` bytes in the state s
abbrev pub IsFault : HeapState → Position → ℕ → AccessFault → Type 0
IsFault s position count access.Unknown = get s.held position.number ≡ None
IsFault s position count access.Range = PassesEnd s position count

-- with blocks, a write to the object x changes no word outside its block; with pages nothing is claimed here
abbrev pub StaysOutside : Kind → HeapState → Placed → HeapState → Type 0
StaysOutside kind old x new = elim (family_of kind) [
  | paged ↦ ⊤
  | tiled ↦ (w : ℕ) → IsOutside x.place (size_at old.tiling x.place) w → slice_index new.words w ≡ slice_index old.words w
]

-- A write succeeds: object `position.number` gets these bytes from byte `position.from` on. Besides this object only words may change.
pub record WritesBytes (old : HeapState) (position : Position) (bytes : List ℕ) (new : HeapState) : Type 0 where
  pub object : Placed
  pub found : get old.held position.number ≡ Some object
  pub within : position.from + length bytes ≤ length object.bytes
  pub outside : StaysOutside old.kind old object new
  pub whole : new ≡ record old { held = insert old.held position.number (record object { bytes = written object.bytes position.from bytes }); words = new.words }

-- a write of `bytes` at the position: with `Ok` it replaces bytes of the object; with `Err` it is refused for this cause, and changes nothing
abbrev pub IsWriteStep : HeapState → Position → List ℕ → Result Unit AccessFault → HeapState → Type 0
IsWriteStep old position bytes (Ok u) new = WritesBytes old position bytes new
IsWriteStep old position bytes (Err e) new = IsFault old position (length bytes) e × (new ≡ old)

-- a read succeeds: object `position.number` is live, and `bytes` are its `count` bytes from byte `position.from` on
pub record ReadsBytes (s : HeapState) (position : Position) (count : ℕ) (bytes : List ℕ) : Type 0 where
  pub object : Placed
  pub found : get s.held position.number ≡ Some object
  pub within : position.from + count ≤ length object.bytes
  pub value : bytes ≡ take count (drop position.from object.bytes)

-- a read into a buffer that holds `room` before and `out` after it: with `Ok` it fills the buffer with the object's bytes from the position on; with `Err` it is
-- refused for this cause, and leaves the buffer unchanged
abbrev pub IsReadAnswer : HeapState → Position → List ℕ → Result Unit AccessFault → List ℕ → Type 0
IsReadAnswer s position room (Ok u) out = ReadsBytes s position (length room) out
IsReadAnswer s position room (Err e) out = IsFault s position (length room) e × (out ≡ room)

-- A resize succeeds with the result `done`: the object gets the length that is asked for. Its first bytes stay, and added bytes are zeros. If its class
-- changes, it gets a new address as by a malloc, and its old slot is freed as by a free.
pub record ResizesObject (old : HeapState) (asked : Request) (done : Resized) (new : HeapState) : Type 0 where
  pub pages : IsPaged old.kind
  pub fits : need asked.length ≤ old.profile.page_words
  pub object : Placed
  pub found : get old.held asked.number ≡ Some object
  pub old_slot : done.old_slot_words ≡ slot_for (paging_in old) (length object.bytes)
  pub slot : done.slot_words ≡ slot_for (paging_in old) asked.length
  pub step : IsResizedBy (paging_in old) old.held asked (record { held = new.held; moved = number_of done.moved })
  pub left : objects new.held ≡ insert (objects old.held) asked.number (resized object.bytes asked.length)
  pub whole : new ≡ record old {
    held = new.held;
    words = new.words;
    frames =
        frames_left old.kind old (record { held = new.held; moved = number_of done.moved });
    order = new.order;
    cost = new.cost;
  }

-- object h is live, and the kind has blocks, for which there is no resize
pub record HasNoResize (s : HeapState) (h : ℕ) : Type 0 where
  pub object : Placed
  pub found : get s.held h ≡ Some object
  pub blocks : IsTiled s.kind

-- the object is live, and with the length that is asked for it would need more than a page
pub record PassesPage (s : HeapState) (asked : Request) : Type 0 where
  pub object : Placed
  pub found : get s.held asked.number ≡ Some object
  pub pages : IsPaged s.kind
  pub large : s.profile.page_words < need asked.length

-- the object is live, and the length that is asked for has another class, which has no slot left
pub record LacksSlot (s : HeapState) (asked : Request) : Type 0 where
  pub object : Placed
  pub found : get s.held asked.number ≡ Some object
  pub pages : IsPaged s.kind
  pub fits : need asked.length ≤ s.profile.page_words
  pub other : class_for (paging_in s) asked.length ≢ class_at (paging_in s) object
  pub lacking : LacksRoom (paging_in s) s.held (class_for (paging_in s) asked.length)

-- the cause of each refusal of a resize in the state s
abbrev pub IsResizeFault : HeapState → Request → ResizeFault → Type 0
IsResizeFault s asked resize.Unknown = get s.held asked.number ≡ None
IsResizeFault s asked resize.Kind = HasNoResize s asked.number
IsResizeFault s asked resize.Size = PassesPage s asked
IsResizeFault s asked resize.Space = LacksSlot s asked

-- a refused resize leads from the state `old` to `new`: with pages only the cost changes, with blocks nothing
abbrev pub IsLeftByRefusal : Kind → HeapState → HeapState → Type 0
IsLeftByRefusal kind old new = elim (family_of kind) [ paged ↦ ChangesCost old new | tiled ↦ new ≡ old ]

-- a resize: with `Ok` it changes the object's length; with `Err` it is refused for this cause, and changes only the cost, with blocks nothing
abbrev pub IsResizeStep : HeapState → Request → Result Resized ResizeFault → HeapState → Type 0
IsResizeStep old asked (Ok done) new = ResizesObject old asked done new
IsResizeStep old asked (Err e) new = IsResizeFault old asked e × IsLeftByRefusal old.kind old new

-- In the non-moving manager, each object but h that is live before and after a call keeps the physical blocks of its slot, and their words stay. `before` and
-- `after` are the physical words of the region before and after the call.
pub record BlocksStay (old : HeapState) (h : ℕ) (new : HeapState) : Type 0 where
  pub blocks : (q : ℕ) (x y : Placed) → q ≢ h → get old.held q ≡ Some x → get new.held q ≡ Some y → (i : ℕ) → i < slot_for (paging_in old) (length x.bytes) / 4
      → block_of new.frames y.place i ≡ block_of old.frames x.place i
  pub words : (before after : List ℕ) → IsPhysical old.frames old.words before → IsPhysical new.frames new.words after
      → (q : ℕ) (x y : Placed) → q ≢ h → get old.held q ≡ Some x → get new.held q ≡ Some y → (i j : ℕ) → i < slot_for (paging_in old) (length x.bytes) / 4
      → j < 4
      → slice_index after (4 * block_of old.frames x.place i + j) ≡ slice_index before (4 * block_of old.frames x.place i + j)

-- a free or a resize of object h keeps the physical blocks of the other objects; nothing is claimed of the kinds without a block table
abbrev pub BlocksStayIn : Kind → HeapState → ℕ → HeapState → Type 0
BlocksStayIn Moving old h new = Unit {0}
BlocksStayIn NonMoving old h new = BlocksStay old h new
BlocksStayIn Tlsf old h new = Unit {0}
BlocksStayIn HalfFit old h new = Unit {0}
