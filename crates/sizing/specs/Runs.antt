-- Runs of a program on a heap with pages: its calls, each a step of the arrangement, and when one is refused for space. `p` holds the pages and the classes;
-- `allowed` says which live objects the program may have.
use Rattle.std.specs.Prelude.{◌≡◌, ◌≢◌, ℕ, ◌<◌, List, [], ◌∷◌, Option, Some, None, length, replicate}
use Rattle.std.specs.FinMap.{empty, get, insert}
use Rattle.page_model.specs.Arrangement.{LacksRoom, class_at}
use Rattle.page_model.specs.Held.{Held, Objects, Placed, objects}
use Rattle.page_model.specs.Paging.{Paging, class_for, classes}
use Rattle.page_model.specs.Steps.{PlacesObject, RefitsObject, RemovesObject, resized}

-- a call: a malloc of n bytes, whose object gets number h; a free of object h; a resize of object h to n bytes; a write after which object h has the bytes v
pub data HeapCall : Type 0 where
  malloc_of : (h n : ℕ) → HeapCall
  free_of : (h : ℕ) → HeapCall
  resize_of : (h n : ℕ) → HeapCall
  write_of : (h : ℕ) (v : List ℕ) → HeapCall

-- object h has the bytes v after a write, which changes neither its length nor its address
pub record RewritesBytes (old : Held) (h : ℕ) (v : List ℕ) (new : Held) : Type 0 where
  pub object : Placed
  pub found : get old h ≡ Some object
  pub long : length v ≡ length object.bytes
  pub left : new ≡ insert old h (record object { bytes = v })

-- the call may turn the objects `old` into `new`: which free slot is used, and which object a free moves, is left open
abbrev pub Does : Paging → Held → HeapCall → Held → Type 0
Does p old (malloc_of h n) new = PlacesObject p old (record { number = h; length = n }) new
Does p old (free_of h) new = (moved : Option ℕ) × RemovesObject p old h (record { held = new; moved = moved })
Does p old (resize_of h n) new = (moved : Option ℕ) × RefitsObject p old (record { number = h; length = n }) (record { held = new; moved = moved })
Does p old (write_of h v) new = RewritesBytes old h v new

-- the call resizes an object to another length of its class, so the object keeps its slot
abbrev pub ResizesWithin : Paging → Held → HeapCall → Type 0
ResizesWithin p m (malloc_of h n) = ⊥
ResizesWithin p m (free_of h) = ⊥
ResizesWithin p m (resize_of h n) = (object : Placed) × (get m h ≡ Some object) × (class_for p n ≡ class_at p object) × (n ≢ length object.bytes)
ResizesWithin p m (write_of h v) = ⊥

-- the same as `Does`, for a program that never resizes an object to another length of its class
abbrev pub DoesAcross : Paging → Held → HeapCall → Held → Type 0
DoesAcross p old call new = Does p old call new × ¬ ResizesWithin p old call

-- from the objects m the calls, one after the other, each a step of the relation `step`, may lead to `last`; after each the live objects are allowed
abbrev pub RunCallsBy : (Held → HeapCall → Held → Type 0) → (Objects → Type 0) → Held → List HeapCall → Held → Type 0
RunCallsBy step allowed m [] last = last ≡ m
RunCallsBy step allowed m (call ∷ rest) last = (next : Held) × step m call next × allowed (objects next) × RunCallsBy step allowed next rest last

-- a run of any calls
abbrev pub RunCalls : Paging → (Objects → Type 0) → Held → List HeapCall → Held → Type 0
RunCalls p allowed m calls last = RunCallsBy (Does p) allowed m calls last

-- a malloc of n bytes, whose object would get number h, is allowed, and its class has no slot left
pub record MallocLacks (p : Paging) (allowed : Objects → Type 0) (m : Held) (h n : ℕ) : Type 0 where
  pub unused : get m h ≡ None
  pub fits : class_for p n < classes p
  pub asked : allowed (insert (objects m) h (replicate n 0))
  pub lacking : LacksRoom p m (class_for p n)

-- a resize of object h to n bytes, into another class, is allowed, and that class has no slot left
pub record ResizeLacks (p : Paging) (allowed : Objects → Type 0) (m : Held) (h n : ℕ) : Type 0 where
  pub object : Placed
  pub found : get m h ≡ Some object
  pub other : class_for p n ≢ class_at p object
  pub fits : class_for p n < classes p
  pub asked : allowed (insert (objects m) h (resized object.bytes n))
  pub lacking : LacksRoom p m (class_for p n)

-- whatever a program that began without objects called before, each call a step of the relation `step`, no allowed malloc is refused for space
abbrev pub ServesMallocsBy : (Held → HeapCall → Held → Type 0) → Paging → (Objects → Type 0) → Type 0
ServesMallocsBy step p allowed = (calls : List HeapCall) (m : Held) (h n : ℕ) → RunCallsBy step allowed empty calls m → ¬ MallocLacks p allowed m h n

-- whatever a program that began without objects called before, each call a step of the relation `step`, no allowed resize is refused for space
abbrev pub ServesResizesBy : (Held → HeapCall → Held → Type 0) → Paging → (Objects → Type 0) → Type 0
ServesResizesBy step p allowed = (calls : List HeapCall) (m : Held) (h n : ℕ) → RunCallsBy step allowed empty calls m → ¬ ResizeLacks p allowed m h n

-- whatever a program that began without objects called before, no allowed malloc is refused for space
abbrev pub ServesMallocs : Paging → (Objects → Type 0) → Type 0
ServesMallocs p allowed = ServesMallocsBy (Does p) p allowed

-- whatever a program that began without objects called before, no allowed resize is refused for space
abbrev pub ServesResizes : Paging → (Objects → Type 0) → Type 0
ServesResizes p allowed = ServesResizesBy (Does p) p allowed

-- no allowed malloc is refused for space to a program that never resizes an object to another length of its class
abbrev pub ServesMallocsAcross : Paging → (Objects → Type 0) → Type 0
ServesMallocsAcross p allowed = ServesMallocsBy (DoesAcross p) p allowed

-- no allowed resize is refused for space to a program that never resizes an object to another length of its class
abbrev pub ServesResizesAcross : Paging → (Objects → Type 0) → Type 0
ServesResizesAcross p allowed = ServesResizesBy (DoesAcross p) p allowed

-- the pages are enough for mallocs and resizes
pub record IsServed (p : Paging) (allowed : Objects → Type 0) : Type 0 where
  pub mallocs : ServesMallocs p allowed
  pub resizes : ServesResizes p allowed

-- the pages are too few: after these calls, begun with the objects m, an allowed malloc is refused for space
pub record CanBeRefused (p : Paging) (allowed : Objects → Type 0) (m : Held) : Type 0 where
  pub calls : List HeapCall
  pub last : Held
  pub run : RunCalls p allowed m calls last
  pub number : ℕ
  pub bytes : ℕ
  pub lacks : MallocLacks p allowed last number bytes
