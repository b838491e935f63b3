-- What taking a free slot of a class does to the tables, and its steps. `old` are the tables before, `new` those after.
use Rattle.std.specs.Prelude.{◌≡◌, ◌≢◌, ℕ, true, false, not, ◌⊎◌, [], ◌∷◌, length, replicate, Option, Some, None, slice_get, slice_set}
use Rattle.std.specs.List.{position}
use Rattle.size_classes.specs.Table.{ClassTable}
use Rattle.class_lists.specs.declared.Which.TheVariants.{Full, NotFull}
use Rattle.class_lists.specs.PageLists.{PageLists, pages_in}
use Rattle.page_pool.specs.Pool.{TakesFront}
use Rattle.page_model.specs.Order.{new_page_steps, open_steps}
use Rattle.page_slots.specs.Tables.{Tables, JoinsList, LeavesList, address_in, slots_in, slots_on, used_in}

-- a page of class c leaves the partly full pages and becomes the first of the full ones
pub record FillsPage (old : PageLists) (c page : ℕ) (new : PageLists) : Type 0 where
  pub between : PageLists
  pub leaves : LeavesList old c NotFull page between
  pub joins : JoinsList between c Full page new

-- a call takes the lowest free slot of the first partly full page of class c; if that fills the page, it moves to the full ones
pub record TakesOnPartlyFullPage (old : Tables) (c page slot : ℕ) (new : Tables) : Type 0 where
  pub front : slice_get (pages_in old.lists c NotFull) 0 ≡ Some page
  pub least : position (λ used. not used) (slots_on old page) ≡ Some slot
  pub free : slice_get (slots_on old page) slot ≡ Some false
  pub maps : new.maps ≡ slice_set old.maps page (slice_set (slots_on old page) slot true)
  pub pool : new.pool ≡ old.pool
  pub filled : used_in (slots_on new page) ≡ length (slots_on new page) → FillsPage old.lists c page new.lists
  pub not_filled : used_in (slots_on new page) ≢ length (slots_on new page) → new.lists ≡ old.lists

-- class c has no partly full page, and a call takes slot 0 of the first page of the pool; the page joins the partly full pages of the class, or the full ones
-- if it has no other slot
pub record TakesOnFreePage (k : ClassTable) (old : Tables) (c page : ℕ) (new : Tables) : Type 0 where
  pub none : pages_in old.lists c NotFull ≡ []
  pub front : TakesFront old.pool (Some page) new.pool
  pub maps : new.maps ≡ slice_set old.maps page (slice_set (replicate (slots_in k c) false) 0 true)
  pub filled : slots_in k c ≡ 1 → JoinsList old.lists c Full page new.lists
  pub not_filled : slots_in k c ≢ 1 → JoinsList old.lists c NotFull page new.lists

-- a call takes a free slot of class c, at address a: on a partly full page if there is one, else on a free page
pub record TakesAt (k : ClassTable) (old : Tables) (c a : ℕ) (new : Tables) : Type 0 where
  pub page : ℕ
  pub slot : ℕ
  pub address : a ≡ address_in k c page slot
  pub taken : TakesOnPartlyFullPage old c page slot new ⊎ ((slot ≡ 0) × TakesOnFreePage k old c page new)

-- a call takes a slot of class c, at this address (`Some`); or there is none (`None`), since no page of the class is partly full and no page is free, and
-- nothing changes
abbrev pub TakesSlot : ClassTable → Tables → ℕ → Option ℕ → Tables → Type 0
TakesSlot k old c None new = (pages_in old.lists c NotFull ≡ []) × (old.pool.free ≡ []) × (new ≡ old)
TakesSlot k old c (Some a) new = TakesAt k old c a new

-- the steps of `take_slot` for class c: on a partly full page, on a free page, or if there is neither
abbrev pub take_slot_steps : ClassTable → Tables → ℕ → ℕ
take_slot_steps k t c = elim (pages_in t.lists c NotFull) [
  | [] ↦ elim t.pool.free [ [] ↦ 2 | page ∷ rest ↦ new_page_steps ]
  | page ∷ rest ↦ open_steps (used_in (slots_on t page)) (slots_in k c)
]
