-- The order in which a manager uses pages, slots and numbers, when a call follows it, and the steps of taking, finding and freeing slots by it, and of one
-- word. A call that follows an order turns the order `old` into `new`.
use Rattle.std.specs.Prelude.{◌≡◌, ℕ, ◌+◌, ◌<◌, ◌⊎◌, ◌↔◌, List, [], ◌∷◌, Option, Some, None, length, slice_index_or, slice_set, nat_eq, not, replicate, if◌then◌else◌}
use Rattle.std.specs.List.{Contains, IsDistinct, filter, range_with_len}
use Rattle.std.specs.FinMap.{get, len}
use Rattle.cf_base.specs.declared.kind.Kind.{Kind}
use Rattle.cf_base.specs.declared.kind.Kind.TheVariants.{Moving, NonMoving, Tlsf, HalfFit}
use Rattle.page_model.specs.Held.{Held, Placed}
use Rattle.page_model.specs.Paging.{Paging, classes, class_for, slots_of, page_of, address_of}
use Rattle.page_model.specs.Arrangement.{class_at, objects_on, count_on}
use Rattle.page_model.specs.Steps.{CallResult, Request, resized_at}

-- what a manager uses next: the free pages (`pool`), the partly full pages of each class (`not_full`), and the numbers that no object has (`spare`); each list
-- begins with the one used next
pub record Order : Type 0 where
  pub pool : List ℕ
  pub not_full : List (List ℕ)
  pub spare : List ℕ

-- the partly full pages of class c in the order o, the next one first
abbrev pub not_full_in : Order → ℕ → List ℕ
not_full_in o c = slice_index_or o.not_full c []

-- the order o with this list of partly full pages for class c
abbrev pub with_not_full : Order → ℕ → List ℕ → Order
with_not_full o c pages = record o { not_full = slice_set o.not_full c pages }

-- the page is partly full with class c: it has an object of class c, but fewer than it has slots
abbrev pub IsPartlyFull : Paging → Held → ℕ → ℕ → Type 0
IsPartlyFull p m c page = (0 < objects_on p m c page) × (objects_on p m c page < slots_of p c)

-- o is an order of the arrangement m with numbers below `limit`: it lists the pages without objects, the partly full pages of each class, and the numbers
-- without an object, each once
pub record IsOrderOf (p : Paging) (m : Held) (limit : ℕ) (o : Order) : Type 0 where
  pub pool : (page : ℕ) → Contains o.pool page ↔ ((page < p.pages) × (count_on p m page ≡ 0))
  pub pool_once : IsDistinct nat_eq o.pool
  pub as_many : length o.not_full ≡ classes p
  pub not_full : (c page : ℕ) → c < classes p → Contains (not_full_in o c) page ↔ ((page < p.pages) × IsPartlyFull p m c page)
  pub not_full_once : (c : ℕ) → c < classes p → IsDistinct nat_eq (not_full_in o c)
  pub spare : (h : ℕ) → Contains o.spare h → (h < limit) × (get m h ≡ None)
  pub spare_once : IsDistinct nat_eq o.spare
  pub spare_all : length o.spare + len m ≡ limit

-- the order of an empty heap with numbers below `limit`: pages and numbers in rising order
abbrev pub first_order : Paging → ℕ → Order
first_order p limit = record { pool = range_with_len 0 p.pages; not_full = replicate (classes p) []; spare = range_with_len 0 limit }

-- an object of m is at address a
abbrev pub IsTaken : Held → ℕ → Type 0
IsTaken m a = (q : ℕ) × (x : Placed) × (get m q ≡ Some x) × (x.place ≡ a)

-- the slot is the lowest free one of the page, if the page is cut into slots of class c: it is free, and each lower slot is taken
pub record IsLeastFree (p : Paging) (m : Held) (c page slot : ℕ) : Type 0 where
  pub free : ¬ IsTaken m (address_of p c page slot)
  pub least : (s : ℕ) → s < slot → IsTaken m (address_of p c page s)

-- the slot is the lowest taken one of the page, if the page is cut into slots of class c: it is taken, and each lower slot is free
pub record IsLeastTaken (p : Paging) (m : Held) (c page slot : ℕ) : Type 0 where
  pub taken : IsTaken m (address_of p c page slot)
  pub least : (s : ℕ) → s < slot → ¬ IsTaken m (address_of p c page s)

-- a call takes a slot of class c on a partly full page: the lowest free one, at address a, of the first such page; if that fills the page, the page leaves the
-- list of the class
pub record TakesOnPartlyFullPage (p : Paging) (m : Held) (old : Order) (c a : ℕ) (new : Order) : Type 0 where
  pub page : ℕ
  pub slot : ℕ
  pub rest : List ℕ
  pub address : a ≡ address_of p c page slot
  pub front : not_full_in old c ≡ page ∷ rest
  pub least : IsLeastFree p m c page slot
  pub left : new ≡ (if nat_eq (objects_on p m c page + 1) (slots_of p c) then with_not_full old c rest else old)

-- a call takes a slot of class c on a free page, since none of the class is partly full: slot 0, at address a, of the first free page; unless that fills the
-- page, it becomes the only page in the list of the class
pub record TakesOnFreePage (p : Paging) (old : Order) (c a : ℕ) (new : Order) : Type 0 where
  pub page : ℕ
  pub rest : List ℕ
  pub address : a ≡ address_of p c page 0
  pub none : not_full_in old c ≡ []
  pub front : old.pool ≡ page ∷ rest
  pub left : new ≡ record (if nat_eq (slots_of p c) 1 then old else with_not_full old c (page ∷ [])) { pool = rest }

-- a call takes the next slot of class c, at address a: on the first partly full page, or, if there is none, on the first free one
abbrev pub TakesNext : Paging → Held → Order → ℕ → ℕ → Order → Type 0
TakesNext p m old c a new = TakesOnPartlyFullPage p m old c a new ⊎ TakesOnFreePage p old c a new

-- a malloc (`asked`) follows the order: it uses the first spare number and takes the next slot of its class, at `place`
pub record MallocFollows (p : Paging) (m : Held) (asked : Request) (place : ℕ) (old new : Order) : Type 0 where
  pub rest : List ℕ
  pub number : old.spare ≡ asked.number ∷ rest
  pub taken : TakesNext p m (record old { spare = rest }) (class_for p asked.length) place new

-- the order o after a slot of class c on the page becomes free: a page that is then empty leaves its list and becomes the first free page; a page that was full
-- becomes the first partly full one
abbrev pub slot_freed : Paging → Held → Order → ℕ → ℕ → Order
slot_freed p m o c page =
    if nat_eq (objects_on p m c page) 1 then record (with_not_full o c (filter (λ other. not (nat_eq other page)) (not_full_in o c))) { pool = page ∷ o.pool }
    else if nat_eq (objects_on p m c page) (slots_of p c) then with_not_full o c (page ∷ not_full_in o c)
    else o

-- object y is the next one of class c to move by the order o: it is at the lowest taken slot of the first partly full page of the class
pub record IsNextToMove (p : Paging) (m : Held) (o : Order) (c : ℕ) (y : Placed) : Type 0 where
  pub page : ℕ
  pub slot : ℕ
  pub rest : List ℕ
  pub front : not_full_in o c ≡ page ∷ rest
  pub least : IsLeastTaken p m c page slot
  pub address : y.place ≡ address_of p c page slot

-- the order after object x is removed: without a move the slot of x becomes free; if object q moves into it, q was the next one to move, and its old slot
-- becomes free
abbrev pub SlotFollows : Paging → Held → Placed → Option ℕ → Order → Order → Type 0
SlotFollows p m x None old new = new ≡ slot_freed p m old (class_at p x) (page_of p x.place)
SlotFollows p m x (Some q) old new = (y : Placed) × (get m q ≡ Some y) × IsNextToMove p m old (class_at p x) y
    × (new ≡ slot_freed p m old (class_at p x) (page_of p y.place))

-- a free of object h follows the order: if it moves an object (`moved`), that is the next one to move; the number h becomes the first spare one
pub record FreeFollows (p : Paging) (m : Held) (h : ℕ) (moved : Option ℕ) (old new : Order) : Type 0 where
  pub object : Placed
  pub found : get m h ≡ Some object
  pub between : Order
  pub slot : SlotFollows p m object moved old between
  pub number : new ≡ record between { spare = h ∷ between.spare }

-- a resize (`asked`, with the result `after`) follows the order: to another class it takes the next slot there, then frees the old one; within the class the
-- order stays
pub record ResizeFollows (p : Paging) (m : Held) (asked : Request) (after : CallResult) (old new : Order) : Type 0 where
  pub object : Placed
  pub found : get m asked.number ≡ Some object
  pub stays : class_for p asked.length ≡ class_at p object → new ≡ old
  pub changes : ¬ (class_for p asked.length ≡ class_at p object) → (place : ℕ) × (between : Order)
      × (get after.held asked.number ≡ Some (resized_at place object asked.length))
      × TakesNext p m old (class_for p asked.length) place between
      × SlotFollows p m object after.moved between new

-- the steps of reading or writing one word, by kind: one, and for the non-moving kind one more to read the block table
abbrev pub word_steps : Kind → ℕ
word_steps Moving = 1
word_steps NonMoving = 2
word_steps Tlsf = 1
word_steps HalfFit = 1

-- the steps of taking a slot on a partly full page of n slots of which `used` are taken: more if that fills the page
abbrev pub open_steps : ℕ → ℕ → ℕ
open_steps used n = if nat_eq (used + 1) n then 13 else 5

-- the steps of taking slot 0 of a free page
abbrev pub new_page_steps : ℕ
new_page_steps = 11

-- the steps of freeing a slot on a page of n slots of which `used` were taken: more if that empties the page, or if it was full
abbrev pub drop_steps : ℕ → ℕ → ℕ
drop_steps used n = if nat_eq used 1 then 10 else if nat_eq used n then 13 else 5

-- the steps of finding the lowest taken slot of a partly full page with `used` taken slots, and of freeing it: more if that empties the page
abbrev pub fill_steps : ℕ → ℕ
fill_steps used = if nat_eq used 1 then 12 else 7

-- the steps of taking the next slot of class c by the order o: on the first partly full page, or, if there is none, on a free page
abbrev pub steps_to_take : Paging → Held → Order → ℕ → ℕ
steps_to_take p m o c = elim (not_full_in o c) [ [] ↦ new_page_steps | page ∷ rest ↦ open_steps (objects_on p m c page) (slots_of p c) ]

-- the steps of freeing a slot of class c on the page, whose objects are counted before the free
abbrev pub steps_to_drop : Paging → Held → ℕ → ℕ → ℕ
steps_to_drop p m c page = drop_steps (objects_on p m c page) (slots_of p c)

-- the steps of finding and freeing the slot of the object of class c that is next to move by the order o; 0 if no page of the class is partly full
abbrev pub steps_to_fill : Paging → Held → Order → ℕ → ℕ
steps_to_fill p m o c = elim (not_full_in o c) [ [] ↦ 0 | page ∷ rest ↦ fill_steps (objects_on p m c page) ]
