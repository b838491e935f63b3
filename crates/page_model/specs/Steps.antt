-- What a malloc, a free and a resize do to an arrangement: each is a relation between the objects before the call (`old`, or m) and those after it.
use Rattle.std.specs.Prelude.{◌≡◌, ◌≢◌, ℕ, ◌⊎◌, ◌-◌, ◌<◌, List, ◌++◌, Option, Some, None, length, take, replicate}
use Rattle.std.specs.FinMap.{get, insert, remove}
use Rattle.page_model.specs.Held.{Held, Placed}
use Rattle.page_model.specs.Paging.{Paging, slots_of, bound_of, class_for, page_of}
use Rattle.page_model.specs.Arrangement.{class_at, objects_on, count_on, not_full_pages, IsSlotAt}

-- what a malloc or a resize is asked for: the object's number, and its new length in bytes
pub record Request : Type 0 where
  pub number : ℕ
  pub length : ℕ

-- what a free or a resize leaves: the objects, and the number of the other object that moved, if one did
pub record CallResult : Type 0 where
  pub held : Held
  pub moved : Option ℕ

-- an object of n bytes may be placed at address a: in a free slot of a partly full page of its class, or, if there is no such page, of a page without objects
pub record IsFreePlace (p : Paging) (m : Held) (n a : ℕ) : Type 0 where
  pub slot : IsSlotAt p (class_for p n) a
  pub unused : (q : ℕ) (y : Placed) → get m q ≡ Some y → y.place ≢ a
  pub choice : ((0 < objects_on p m (class_for p n) (page_of p a)) × (objects_on p m (class_for p n) (page_of p a) < slots_of p (class_for p n)))
      ⊎ ((not_full_pages p m (class_for p n) ≡ 0) × (count_on p m (page_of p a) ≡ 0))

-- an object of n zeros at address a
abbrev pub zeros_at : ℕ → ℕ → Placed
zeros_at a n = record { place = a; bytes = replicate n 0 }

-- a malloc turns `old` into `new`: an object of `asked.length` zeros is placed at a free address, under a number that wasn't in use
pub record PlacesObject (p : Paging) (old : Held) (asked : Request) (new : Held) : Type 0 where
  pub place : ℕ
  pub unused : get old asked.number ≡ None
  pub free : IsFreePlace p old asked.length place
  pub placed : new ≡ insert old asked.number (zeros_at place asked.length)

-- a free of object x must move another object into its slot: its page is full, pages of its class have several slots, and its class has as many partly full
-- pages as its bound
pub record MustMove (p : Paging) (m : Held) (x : Placed) : Type 0 where
  pub full : objects_on p m (class_at p x) (page_of p x.place) ≡ slots_of p (class_at p x)
  pub several : 1 < slots_of p (class_at p x)
  pub many : not_full_pages p m (class_at p x) ≡ bound_of p (class_at p x)

-- object y may move into the slot of x: it has the same class, and its page isn't full
pub record MayFill (p : Paging) (m : Held) (x y : Placed) : Type 0 where
  pub class : class_at p y ≡ class_at p x
  pub not_full : objects_on p m (class_at p x) (page_of p y.place) < slots_of p (class_at p x)

-- which other object a free of x moves: object q if one must move (`MustMove`), and q may; none if none must move
abbrev pub Moves : Paging → Held → Placed → Option ℕ → Type 0
Moves p m x None = ¬ MustMove p m x
Moves p m x (Some q) = MustMove p m x × ((y : Placed) × (get m q ≡ Some y) × MayFill p m x y)

-- the objects m after object q moved to address a; if there is no such object, they stay
abbrev pub moved_to : Held → ℕ → Option Placed → ℕ → Held
moved_to m q None a = m
moved_to m q (Some y) a = insert m q (record { place = a; bytes = y.bytes })

-- the objects without object h, whose address was a; if a free moved object q, that object is now at a
abbrev pub without : Held → ℕ → ℕ → Option ℕ → Held
without m h a None = remove m h
without m h a (Some q) = moved_to (remove m h) q (get m q) a

-- a free of object h turns the objects `old` into `after`: h is removed, and if `MustMove` holds, another object of its class moves to its address
pub record RemovesObject (p : Paging) (old : Held) (h : ℕ) (after : CallResult) : Type 0 where
  pub freed : Placed
  pub found : get old h ≡ Some freed
  pub moves : Moves p old freed after.moved
  pub left : after.held ≡ without old h freed.place after.moved

-- the first n bytes of v, then zeros up to n
abbrev pub resized : List ℕ → ℕ → List ℕ
resized v n = take n v ++ replicate (n - length v) 0

-- the object x with its length changed to n, at address a
abbrev pub resized_at : ℕ → Placed → ℕ → Placed
resized_at a x n = record { place = a; bytes = resized x.bytes n }

-- a resize (`asked`) within the class: the object keeps its address, and no object moves
pub record ResizesInPlace (p : Paging) (old : Held) (asked : Request) (after : CallResult) : Type 0 where
  pub object : Placed
  pub found : get old asked.number ≡ Some object
  pub same : class_for p asked.length ≡ class_at p object
  pub placed : after.held ≡ insert old asked.number (resized_at object.place object asked.length)
  pub still : after.moved ≡ None

-- a resize (`asked`) to another class: a malloc under a spare number, with the old object still there, then a free of the old object; then the new object gets
-- the old number
pub record ChangesClass (p : Paging) (old : Held) (asked : Request) (after : CallResult) : Type 0 where
  pub object : Placed
  pub found : get old asked.number ≡ Some object
  pub other : class_for p asked.length ≢ class_at p object
  pub place : ℕ
  pub free : IsFreePlace p old asked.length place
  pub spare : ℕ
  pub unused : get old spare ≡ None
  pub left : Held
  pub freed : RemovesObject p (insert old spare (resized_at place object asked.length)) asked.number (record { held = left; moved = after.moved })
  pub renamed : after.held ≡ insert (remove left spare) asked.number (resized_at place object asked.length)

-- a resize (`asked`), within its class or to another, turns the objects `old` into `after`
abbrev pub RefitsObject : Paging → Held → Request → CallResult → Type 0
RefitsObject p old asked after = ResizesInPlace p old asked after ⊎ ChangesClass p old asked after
