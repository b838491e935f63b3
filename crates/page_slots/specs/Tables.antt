-- The tables of pages, which show the used slots of each page and the pages of each class: what they mean, their rules, the address of a slot and the slot at
-- an address, the pages of other owners (foreign ones), and how a page joins or leaves a list.
use Rattle.std.specs.Prelude.{◌≡◌, ℕ, Bool, true, false, ◌+◌, ◌*◌, ◌/◌, ◌%◌, ◌^◌, ◌<◌, ◌⊎◌, List, [], ◌∷◌, length, Some, count_by, slice_get, slice_index}
use Rattle.std.specs.Prelude.{slice_index_or}
use Rattle.std.specs.List.{Contains}
use Rattle.cf_base.specs.Lists.{without_number}
use Rattle.cf_base.specs.Classes.{slots}
use Rattle.size_classes.specs.Table.{ClassTable, IsClassTable}
use Rattle.class_lists.specs.declared.Which.{Which}
use Rattle.class_lists.specs.declared.Which.TheVariants.{Full, NotFull}
use Rattle.class_lists.specs.PageLists.{PageLists, AreApart, IsUnlisted, KeepsOthers, pages_in, with_list}
use Rattle.page_pool.specs.Pool.{Pool, IsPool, is_in_pool}

-- The tables of all pages as one owner sees them: `maps` has the slots of each page, true for used; `lists` the full and the partly full pages of each class
-- of this owner; `pool` the free pages.
pub record Tables : Type 0 where
  pub maps : List (List Bool)
  pub lists : PageLists
  pub pool : Pool

-- the tables with these parts
abbrev pub tables : List (List Bool) → PageLists → Pool → Tables
tables maps lists pool = record { maps = maps; lists = lists; pool = pool }

-- the slots of a page, true for used
abbrev pub slots_on : Tables → ℕ → List Bool
slots_on t page = slice_index_or t.maps page []

-- the number of used slots among these
abbrev pub used_in : List Bool → ℕ
used_in all = count_by (λ used. used) all

-- the number of slots of class c on a page
abbrev pub slots_in : ClassTable → ℕ → ℕ
slots_in k c = slots k.page_words k.sizes c

-- the address of slot number `slot` of class c on a page
abbrev pub address_in : ClassTable → ℕ → ℕ → ℕ → ℕ
address_in k c page slot = page * k.page_words + slot * slice_index k.sizes c

-- the number of the page that holds the address a
abbrev pub page_at : ClassTable → ℕ → ℕ
page_at k a = a / k.page_words

-- the number, on its page, of the slot of class c that holds the address a
abbrev pub slot_at : ClassTable → ℕ → ℕ → ℕ
slot_at k c a = a % k.page_words / slice_index k.sizes c

-- the page is of class c: it is in one of the two lists of that class
abbrev pub IsOf : Tables → ℕ → ℕ → Type 0
IsOf t c page = Contains (pages_in t.lists c Full) page ⊎ Contains (pages_in t.lists c NotFull) page

-- the page is of class c, and its slot number `slot` is used
pub record IsUsed (t : Tables) (c page slot : ℕ) : Type 0 where
  pub of : IsOf t c page
  pub used : slice_get (slots_on t page) slot ≡ Some true

-- a page in this list has `used` of its n slots used: all of them if it is in the list of full pages, else some but not all
abbrev pub HasUsed : Which → ℕ → ℕ → Type 0
HasUsed Full used n = used ≡ n
HasUsed NotFull used n = (0 < used) × (used < n)

-- the page is free and of no class, and its map has no used slot
pub record IsFreePage (t : Tables) (page : ℕ) : Type 0 where
  pub free : is_in_pool t.pool.free page ≡ true
  pub unlisted : IsUnlisted t.lists page
  pub unused : used_in (slots_on t page) ≡ 0

-- the page is not free, is in the list `which` of class c, and has the slots of a page of the class, used as the list asks: all, or some but not all
-- (`HasUsed`)
pub record IsPageOf (k : ClassTable) (t : Tables) (page c : ℕ) (which : Which) : Type 0 where
  pub taken : is_in_pool t.pool.free page ≡ false
  pub listed : Contains (pages_in t.lists c which) page
  pub slots : length (slots_on t page) ≡ slots_in k c
  pub some : 0 < slots_in k c
  pub fills : HasUsed which (used_in (slots_on t page)) (slots_in k c)

-- the page is foreign: neither free nor in a list, because another owner has it
pub record IsForeign (t : Tables) (page : ℕ) : Type 0 where
  pub taken : is_in_pool t.pool.free page ≡ false
  pub unlisted : IsUnlisted t.lists page

-- the page is free, foreign, or of one class
abbrev pub IsPlaced : ClassTable → Tables → ℕ → Type 0
IsPlaced k t page = IsFreePage t page ⊎ (IsForeign t page ⊎ ((c : ℕ) × (which : Which) × IsPageOf k t page c which))

-- The rules of the tables: the slot sizes are those of a class table; the pages have fewer than 2^32 words in all; maps, lists and pool are of the same pages
-- and classes. Each page is free, foreign, or in one list of one class; in a list it has the slots of the class, all of them used or some but not all.
pub record AreTables (k : ClassTable) (t : Tables) : Type 0 where
  pub table : IsClassTable k.page_words k.sizes
  pub small : t.pool.pages * k.page_words < 2 ^ 32
  pub maps : length t.maps ≡ t.pool.pages
  pub pages : t.lists.pages ≡ t.pool.pages
  pub classes : t.lists.classes ≡ length k.sizes
  pub pool : IsPool t.pool
  pub lists : AreApart t.lists
  pub placed : (page : ℕ) → page < t.pool.pages → IsPlaced k t page

-- no page is foreign: each is free or in a list of this owner
abbrev pub NoneForeign : Tables → Type 0
NoneForeign t = (page : ℕ) → page < t.pool.pages → ¬ IsForeign t page

-- each page that is foreign before (`old`) is foreign afterwards (`new`), with the same used slots
pub record KeepsForeign (old new : Tables) : Type 0 where
  pub still : (page : ℕ) → IsForeign old page → IsForeign new page
  pub slots : (page : ℕ) → IsForeign old page → slots_on new page ≡ slots_on old page

-- `others` are the lists of another owner, who shares the maps and the pool: each page in them is foreign for the tables t
abbrev pub AreOthers : Tables → PageLists → Type 0
AreOthers t others = (c page : ℕ) (which : Which) → Contains (pages_in others c which) page → IsForeign t page

-- the page becomes the first of this list of class c, and all other lists stay
pub record JoinsList (old : PageLists) (c : ℕ) (which : Which) (page : ℕ) (new : PageLists) : Type 0 where
  pub value : new ≡ with_list old c which (page ∷ pages_in old c which)
  pub list : pages_in new c which ≡ page ∷ pages_in old c which
  pub others : KeepsOthers old new c which

-- the page leaves this list of class c, and all other lists stay
pub record LeavesList (old : PageLists) (c : ℕ) (which : Which) (page : ℕ) (new : PageLists) : Type 0 where
  pub value : new ≡ with_list old c which (without_number page (pages_in old c which))
  pub list : pages_in new c which ≡ without_number page (pages_in old c which)
  pub others : KeepsOthers old new c which
