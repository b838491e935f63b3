-- What freeing a used slot does to the tables, whether an object moves into a freed slot and which one, and the steps. `old` are the tables before, `new` those
-- after.
use Rattle.std.specs.Prelude.{◌≡◌, ◌≢◌, ℕ, Bool, true, false, ◌<◌, List, [], ◌∷◌, length, Some, nat_eq, slice_get, slice_index_or, slice_set, if◌then◌else◌}
use Rattle.std.specs.List.{Contains, position}
use Rattle.size_classes.specs.Table.{ClassTable}
use Rattle.class_lists.specs.declared.Which.{Which}
use Rattle.class_lists.specs.declared.Which.TheVariants.{Full, NotFull}
use Rattle.class_lists.specs.PageLists.{PageLists, pages_in}
use Rattle.page_model.specs.Order.{drop_steps, fill_steps}
use Rattle.page_slots.specs.Tables.{Tables, JoinsList, LeavesList, address_in, slots_on, used_in}

-- a page of class c leaves the full pages and becomes the first of the partly full ones
pub record MakesPagePartlyFull (old : PageLists) (c page : ℕ) (new : PageLists) : Type 0 where
  pub between : PageLists
  pub leaves : LeavesList old c Full page between
  pub joins : JoinsList between c NotFull page new

-- The used slot number `slot` of a page of class c becomes free. If the page is then empty, it leaves its list and becomes the first page of the pool; if it
-- was full, it becomes the first partly full page; else lists and pool stay.
pub record Vacates (old : Tables) (c page slot : ℕ) (new : Tables) : Type 0 where
  pub which : Which
  pub listed : Contains (pages_in old.lists c which) page
  pub used : slice_get (slots_on old page) slot ≡ Some true
  pub maps : new.maps ≡ slice_set old.maps page (slice_set (slots_on old page) slot false)
  pub emptied : used_in (slots_on new page) ≡ 0 → LeavesList old.lists c which page new.lists
  pub returned : used_in (slots_on new page) ≡ 0 → new.pool ≡ record old.pool { free = page ∷ old.pool.free }
  pub opened : used_in (slots_on new page) ≢ 0 → which ≡ Full → MakesPagePartlyFull old.lists c page new.lists
  pub still : used_in (slots_on new page) ≢ 0 → which ≡ NotFull → new.lists ≡ old.lists
  pub kept : used_in (slots_on new page) ≢ 0 → new.pool ≡ old.pool

-- the object at address a is the one that moves into a freed slot of class c: its slot is the lowest used one of the first partly full page of the class
pub record IsFiller (k : ClassTable) (maps : List (List Bool)) (lists : PageLists) (c a : ℕ) : Type 0 where
  pub page : ℕ
  pub slot : ℕ
  pub address : a ≡ address_in k c page slot
  pub front : slice_get (pages_in lists c NotFull) 0 ≡ Some page
  pub least : position (λ used. used) (slice_index_or maps page []) ≡ Some slot
  pub used : slice_get (slice_index_or maps page []) slot ≡ Some true

-- `maps` has a map of this page, and the page has a used slot
pub record HasUsedSlot (maps : List (List Bool)) (page : ℕ) : Type 0 where
  pub within : page < length maps
  pub some : 0 < used_in (slice_index_or maps page [])

-- the object at address a is chosen to move into a freed slot of class c, as by `IsFiller`, and the slot at a becomes free
pub record FillsFrom (k : ClassTable) (old : Tables) (c a : ℕ) (new : Tables) : Type 0 where
  pub page : ℕ
  pub slot : ℕ
  pub address : a ≡ address_in k c page slot
  pub front : slice_get (pages_in old.lists c NotFull) 0 ≡ Some page
  pub least : position (λ used. used) (slots_on old page) ≡ Some slot
  pub vacates : Vacates old c page slot new

-- a free of a slot must move an object: its page is full and has several slots, which are `slots` (true for used); and its class has `not_full` partly full
-- pages, as many as its bound
pub record MovesObject (slots : List Bool) (not_full bound : ℕ) : Type 0 where
  pub full : used_in slots ≡ length slots
  pub several : 1 < length slots
  pub many : not_full ≡ bound

-- the steps of `drop_slot`: freeing a used slot of the page
abbrev pub drop_slot_steps : Tables → ℕ → ℕ
drop_slot_steps t page = drop_steps (used_in (slots_on t page)) (length (slots_on t page))

-- the steps of `vacate`: freeing a slot of a page that is in this list and has `used` used slots, without the step that finds the list
abbrev pub steps_to_vacate : Which → ℕ → ℕ
steps_to_vacate which used = if nat_eq used 1 then 9 else elim which [ Full ↦ 12 | NotFull ↦ 4 ]

-- the steps of `fill_slot`: finding and freeing the slot of the object that moves into a freed slot of class c; 0 if the class has no partly full page
abbrev pub fill_slot_steps : Tables → ℕ → ℕ
fill_slot_steps t c = elim (pages_in t.lists c NotFull) [ [] ↦ 0 | page ∷ rest ↦ fill_steps (used_in (slots_on t page)) ]
