-- The rules that every open manager keeps (`KeepsRules`, at the end): of its settings and bounds; of its objects, which are few enough, in a sound
-- arrangement or in the used ones of the blocks that fill the region; of its words, which are the objects' image; of its block table; and of an order of what
-- is free.
use Rattle.std.specs.Prelude.{◌≡◌, ℕ, IfSome, IsTrue, ◌+◌, ◌*◌, ◌^◌, ◌≤◌, ◌<◌, List, [], Option, Some, None, length, nat_eq, slice_index}
use Rattle.std.specs.List.{Contains, IsDistinct}
use Rattle.std.specs.FinMap.{get, len}
use Rattle.cf_base.specs.Settings.{Profile}
use Rattle.cf_base.specs.Limits.{is_page_size}
use Rattle.cf_base.specs.declared.kind.Kind.{Kind}
use Rattle.cf_base.specs.declared.kind.Kind.TheVariants.{Moving, NonMoving, Tlsf, HalfFit}
use Rattle.page_model.specs.Held.{Held, Placed}
use Rattle.page_model.specs.Order.{IsOrderOf, Order}
use Rattle.page_model.specs.Paging.{IsPaging}
use Rattle.page_model.specs.Arrangement.{IsSound}
use Rattle.page_model.specs.Bytes.{AreBytes}
use Rattle.page_model.specs.Image.{IsImage, IsSlotImage, object_word}
use Rattle.page_model.specs.Frames.{IsPermuted}
use Rattle.block_model.specs.FreeOrder.{AreListsOf, HaveLinks, BlocksWithLists}
use Rattle.block_model.specs.Tiling.{Block, IsTiling, block_at, block_need}
use Rattle.block_model.specs.Words.{AreTilingWords}
use Rattle.cf_model.specs.Families.{paged, tiled, family_of, free_lists_of, list_count_of}
pub use Rattle.cf_model.specs.Families.{IsPaged, IsTiled}
use Rattle.cf_model.specs.State.{HeapState, paging_in, region_words}

-- the settings p are in their ranges: 1 to 4,096 pages of an allowed size, k from 1 to 64, 1 to 65,536 proxies, and at most 2 ^ 23 words (64 MiB) in all
pub record AreInRange (p : Profile) : Type 0 where
  pub some_pages : 1 ≤ p.pages
  pub few_pages : p.pages ≤ 4096
  pub page_size : IsTrue (is_page_size p.page_words)
  pub some_bound : 1 ≤ p.k
  pub low_bound : p.k ≤ 64
  pub some_proxies : 1 ≤ p.proxies
  pub few_proxies : p.proxies ≤ 65536
  pub small_region : p.pages * p.page_words ≤ 2 ^ 23

-- each object's number is below the number of proxies, its contents are bytes, and there are no more objects than proxies
pub record AreObjects (s : HeapState) : Type 0 where
  pub handles : (h : ℕ) (x : Placed) → get s.held h ≡ Some x → h < s.profile.proxies
  pub bytes : (h : ℕ) (x : Placed) → get s.held h ≡ Some x → AreBytes x.bytes
  pub few : len s.held ≤ s.profile.proxies

-- The rules of a manager with pages. They imply that no class has more partly full pages than its bound, and that each page of a class holds an object.
pub record KeepsPages (s : HeapState) : Type 0 where
  -- the sizes of the classes rise to the page, and each class has a bound of at least 1
  pub paging : IsPaging (paging_in s)
  -- each bound is at most 64
  pub low_bounds : (c : ℕ) → slice_index s.bounds c ≤ 64
  -- each object is in a slot of its class, no two in the same, within the bounds
  pub sound : IsSound (paging_in s) s.held
  -- the words are those of the objects, and zeros
  pub image : IsImage s.held s.words
  -- zeros fill the rest of each object's slot
  pub slots : IsSlotImage (paging_in s) s.held s.words
  pub no_tiling : s.tiling ≡ []
  -- the order, if there is one, lists its free and partly full pages and its free numbers
  pub order : IfSome s.order (IsOrderOf (paging_in s) s.held s.profile.proxies)

-- there is no block table
abbrev pub HasNoFrames : HeapState → Type 0
HasNoFrames s = s.frames ≡ []

-- the block table is a permutation of the blocks of four words
pub record KeepsFrames (s : HeapState) : Type 0 where
  pub count : 4 * length s.frames ≡ region_words s.profile
  pub permuted : IsPermuted s.frames

-- the block b belongs to the object x of number h, and has as many words as x needs, or one more
pub record IsBlockOf (b : Block) (h : ℕ) (x : Placed) : Type 0 where
  pub owner : b.owner ≡ Some h
  pub least : block_need (length x.bytes) ≤ b.size
  pub most : b.size ≤ block_need (length x.bytes) + 1

-- m maps numbers to objects: each owns the block at its address, and each used block has its object in m
pub record AreOwned (m : Held) (blocks : List Block) : Type 0 where
  pub placed : (h : ℕ) (x : Placed) → get m h ≡ Some x → (b : Block) × (block_at blocks x.place ≡ Some b) × IsBlockOf b h x
  pub live : (a : ℕ) (b : Block) (h : ℕ) → block_at blocks a ≡ Some b → b.owner ≡ Some h → (x : Placed) × (get m h ≡ Some x) × (x.place ≡ a)

-- word i of the object that m has under number h: word 0 is its header, then its bytes follow, then zeros; 0 if m has none
abbrev pub content_word : Held → ℕ → ℕ → ℕ
content_word m h i = content (get m h) h i
  where
    content : Option Placed → ℕ → ℕ → ℕ
    content None h i = 0
    content (Some x) h i = object_word h x.bytes i

-- the blocks of the state s, with the free lists of the order o
abbrev pub listed_by : HeapState → Order → BlocksWithLists
listed_by s o = record { blocks = s.tiling; lists = o.not_full }

-- With blocks, o is an order of the state s. Its lists are the free lists of the kind, and word 1 of each free block has the links of its list. Its spare
-- numbers are those without an object, each once.
pub record IsBlockOrder (s : HeapState) (o : Order) : Type 0 where
  pub no_pool : o.pool ≡ []
  pub lists : AreListsOf (free_lists_of s.kind) (list_count_of s.kind) (listed_by s o)
  pub links : HaveLinks s.words o.not_full
  pub spare : (h : ℕ) → Contains o.spare h → (h < s.profile.proxies) × (get s.held h ≡ None)
  pub spare_once : IsDistinct nat_eq o.spare
  pub spare_all : length o.spare + len s.held ≡ s.profile.proxies

-- the rules of a manager with blocks
pub record KeepsTiling (s : HeapState) : Type 0 where
  -- the blocks fill the region, and no two neighbours are both free
  pub tiling : IsTiling (region_words s.profile) s.tiling
  -- the used blocks are those of the objects
  pub owned : AreOwned s.held s.tiling
  -- the words are those of the blocks and of the objects in them
  pub words : AreTilingWords (content_word s.held) s.tiling s.words
  pub no_frames : s.frames ≡ []
  pub no_bounds : s.bounds ≡ []
  -- the order, if there is one, lists its free blocks and its free numbers
  pub order : IfSome s.order (IsBlockOrder s)

-- what each kind requires of its block table: the non-moving kind has one, which is a permutation; the others have none
abbrev pub KeepsTable : Kind → HeapState → Type 0
KeepsTable Moving s = HasNoFrames s
KeepsTable NonMoving s = KeepsFrames s
KeepsTable Tlsf s = HasNoFrames s
KeepsTable HalfFit s = HasNoFrames s

-- the rules for the memory of a heap of this kind
abbrev pub KeepsRulesOf : Kind → HeapState → Type 0
KeepsRulesOf kind s = elim (family_of kind) [ paged ↦ KeepsPages s × KeepsTable kind s | tiled ↦ KeepsTiling s ]

-- the rules of an open manager
pub record KeepsRules (s : HeapState) : Type 0 where
  -- the settings are in their ranges
  pub settings : AreInRange s.profile
  -- the region has the words of the pages of the settings
  pub region : length s.words ≡ region_words s.profile
  -- there are no more objects than proxies, and their contents are bytes
  pub numbers : AreObjects s
  -- the rules of managers with pages, or of managers with blocks
  pub of_kind : KeepsRulesOf s.kind s
