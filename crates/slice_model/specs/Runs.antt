-- Lists of calls of several tasks: what they do to a sliced heap with its words, and to one map from numbers to bytes. Also the invariant between two calls,
-- and counts of calls in a list.
use Rattle.std.specs.Prelude.{◌≡◌, ℕ, ◌+◌, ◌-◌, ◌/◌, ◌%◌, ◌<◌, ◌≤◌, List, [], ◌∷◌, Option, Some, None, Result}
use Rattle.std.specs.Prelude.{Ok, Err, if◌then◌else◌, length, nat_eq, slice_index, take, drop, replicate, min}
use Rattle.std.specs.FinMap.{get, insert, remove}
use Rattle.cf_base.specs.declared.results.AccessFault.{AccessFault}
use Rattle.cf_base.specs.declared.results.AccessFault.TheVariants as access
use Rattle.cf_base.specs.declared.results.Handle.{Handle}
use Rattle.page_model.specs.Held.{Placed, Objects, objects}
use Rattle.page_model.specs.Paging.{class_for, slot_words}
use Rattle.page_model.specs.Image.{Rewrites, header_word}
use Rattle.page_model.specs.Bytes.{AreBytes, written}
use Rattle.page_model.specs.Steps.{Request}
use Rattle.slice_model.specs.State.{Plan, JobSlot, Sliced, IsKept, job_slot}
use Rattle.slice_model.specs.Steps.{AddsSlicedObject, IsSlicedRefusedBy, RemovesSlicedObject, IsFaultOf, IsSlice}
use Rattle.slice_model.specs.Words.{HasWords, DoesWords, RewritesObject, byte_read}
use Rattle.slice_model.specs.declared.refusals.SliceRefusal.{SliceRefusal}
use Rattle.slice_model.specs.declared.refusals.SliceFault.{SliceFault}
use Rattle.slice_model.specs.declared.refusals.SliceFault.TheVariants as fault

-- where a read or a write begins: the object's number, and the first byte that is read or written, counted from 0
pub record Position : Type 0 where
  pub number : ℕ
  pub from : ℕ

-- A call with its result: a malloc with its number of bytes, a free with its number, a slice, a write with its position and bytes, and a read with its
-- position and number of bytes. For a free and a write None means success.
pub data Event : Type 0 where
  Malloc : ℕ → Result Handle SliceRefusal → Event
  Free : ℕ → Option SliceFault → Event
  Step : Event
  Write : Position → List ℕ → Option AccessFault → Event
  Read : Position → ℕ → Result (List ℕ) AccessFault → Event

-- a call, with its result, and the number of the task that makes it
pub record TaskCall : Type 0 where
  pub task : ℕ
  pub event : Event

-- a sliced heap with its memory: its state, and the words of its region
pub record HeapWithWords : Type 0 where
  pub state : Sliced
  pub words : List ℕ

-- how many words the next slice does if the job holds this slot; 0 if no job is pending
abbrev pub words_of_slice : Plan → Option JobSlot → ℕ
words_of_slice plan None = 0
words_of_slice plan (Some k) = min plan.quantum (slot_words plan.paging k.class - k.done)

-- a malloc that is done: the object `asked` is added to the state, and its header is written at its address; no other word changes
pub record MallocsWithWords (plan : Plan) (old : HeapWithWords) (asked : Request) (new : HeapWithWords) : Type 0 where
  pub gives : AddsSlicedObject plan old.state asked new.state
  pub words : Rewrites old.words new.words (record { from = gives.place; count = 1 }) (λ _. header_word asked.number asked.length)

-- a free of object h that is done: the object is removed from the state, and the first slice of its job clears or moves words
pub record FreesWithWords (plan : Plan) (old : HeapWithWords) (h : ℕ) (new : HeapWithWords) : Type 0 where
  pub removes : RemovesSlicedObject plan old.state h new.state
  pub words : DoesWords removes.begun.held removes.begun.job (words_of_slice plan (job_slot removes.begun.job)) old.words new.words

-- a slice: the state becomes the next one, and the job's next words are cleared or moved
pub record Slices (plan : Plan) (old new : HeapWithWords) : Type 0 where
  pub slice : IsSlice plan old.state new.state
  pub words : DoesWords old.state.held old.state.job (words_of_slice plan (job_slot old.state.job)) old.words new.words

-- a write that is done: the object gets the bytes from byte `position.from` on, and each word that holds one of them is rewritten where it lies (`word_at`)
pub record WritesWithWords (old : HeapWithWords) (position : Position) (bytes : List ℕ) (new : HeapWithWords) : Type 0 where
  pub object : Placed
  pub found : get old.state.held position.number ≡ Some object
  pub fits : position.from + length bytes ≤ length object.bytes
  pub are_bytes : AreBytes bytes
  pub state : new.state ≡ record old.state {
    held = insert old.state.held position.number (record { place = object.place; bytes = written object.bytes position.from bytes });
  }
  pub words : RewritesObject old.state.job position.number object (written object.bytes position.from bytes)
      (record { from = 1 + position.from / 8; count = (position.from % 8 + length bytes + 7) / 8 }) old.words new.words

-- a read of `count` bytes that is done: each byte of the result `out` is read from the word that holds it, where that word lies (`word_at`)
pub record ReadsWithWords (old : HeapWithWords) (position : Position) (count : ℕ) (out : List ℕ) : Type 0 where
  pub object : Placed
  pub found : get old.state.held position.number ≡ Some object
  pub fits : position.from + count ≤ length object.bytes
  pub size : length out ≡ count
  pub bytes : (k : ℕ) → k < count → slice_index out k ≡ byte_read old.state.job old.words position.number object (position.from + k)

-- what holds of the objects o if a read or a write of `count` bytes is refused with this reply: the object isn't live, or the bytes pass its end
abbrev pub IsOutOfReach : Objects → Position → ℕ → AccessFault → Type 0
IsOutOfReach o position count access.Unknown = get o position.number ≡ None
IsOutOfReach o position count access.Range = (v : List ℕ) × (get o position.number ≡ Some v) × (length v < position.from + count)

-- what a call with this result does to the state and the words: the heap `old` becomes `new`
abbrev pub Happens : Plan → HeapWithWords → Event → HeapWithWords → Type 0
Happens plan old (Malloc bytes (Ok h)) new = MallocsWithWords plan old (record { number = h.0; length = bytes }) new
Happens plan old (Malloc bytes (Err e)) new = IsSlicedRefusedBy plan old.state bytes e × (new ≡ old)
Happens plan old (Free h None) new = FreesWithWords plan old h new
Happens plan old (Free h (Some e)) new = IsFaultOf old.state h e × (new ≡ old)
Happens plan old Step new = Slices plan old new
Happens plan old (Write position bytes None) new = WritesWithWords old position bytes new
Happens plan old (Write position bytes (Some e)) new = IsOutOfReach (objects old.state.held) position (length bytes) e × (new ≡ old)
Happens plan old (Read position count (Ok out)) new = ReadsWithWords old position count out × (new ≡ old)
Happens plan old (Read position count (Err e)) new = IsOutOfReach (objects old.state.held) position count e × (new ≡ old)

-- the calls of all tasks, made one after the other, turn the heap `old` into `new`
abbrev pub Runs : Plan → HeapWithWords → List TaskCall → HeapWithWords → Type 0
Runs plan old [] new = new ≡ old
Runs plan old (turn ∷ rest) new = (mid : HeapWithWords) × Happens plan old turn.event mid × Runs plan mid rest new

-- 1 for a slice, 0 for every other call
abbrev pub is_step : Event → ℕ
is_step (Malloc bytes answer) = 0
is_step (Free h answer) = 0
is_step Step = 1
is_step (Write position bytes answer) = 0
is_step (Read position count answer) = 0

-- the number of slices in a list of calls
abbrev pub steps_in : List TaskCall → ℕ
steps_in [] = 0
steps_in (turn ∷ rest) = is_step turn.event + steps_in rest

-- 1 for a free that was not refused, 0 for every other call
abbrev pub is_done_free : Event → ℕ
is_done_free (Malloc bytes answer) = 0
is_done_free (Free h None) = 1
is_done_free (Free h (Some e)) = 0
is_done_free Step = 0
is_done_free (Write position bytes answer) = 0
is_done_free (Read position count answer) = 0

-- how many frees in a list of calls were not refused
abbrev pub frees_in : List TaskCall → ℕ
frees_in [] = 0
frees_in (turn ∷ rest) = is_done_free turn.event + frees_in rest

-- 1 for a malloc of class c that was not refused, 0 for every other call
abbrev pub is_malloc_of : Plan → ℕ → Event → ℕ
is_malloc_of plan c (Malloc bytes (Ok h)) = if nat_eq (class_for plan.paging bytes) c then 1 else 0
is_malloc_of plan c (Malloc bytes (Err e)) = 0
is_malloc_of plan c (Free h answer) = 0
is_malloc_of plan c Step = 0
is_malloc_of plan c (Write position bytes answer) = 0
is_malloc_of plan c (Read position count answer) = 0

-- how many mallocs of class c in a list of calls were not refused
abbrev pub mallocs_in : Plan → ℕ → List TaskCall → ℕ
mallocs_in plan c [] = 0
mallocs_in plan c (turn ∷ rest) = is_malloc_of plan c turn.event + mallocs_in plan c rest

-- an object of o has the number h
abbrev pub IsLive : Objects → ℕ → Type 0
IsLive o h = (v : List ℕ) × (get o h ≡ Some v)

-- What a call with this result does to one map from numbers to bytes, without tasks, addresses and jobs: `old` becomes `new`. A refused call, a slice and a
-- read change nothing.
abbrev pub HappensOnMap : Objects → Event → Objects → Type 0
HappensOnMap old (Malloc bytes (Ok h)) new = (get old h.0 ≡ None) × (new ≡ insert old h.0 (replicate bytes 0))
HappensOnMap old (Malloc bytes (Err e)) new = new ≡ old
HappensOnMap old (Free h None) new = IsLive old h × (new ≡ remove old h)
HappensOnMap old (Free h (Some fault.Unknown)) new = (get old h ≡ None) × (new ≡ old)
HappensOnMap old (Free h (Some fault.Busy)) new = IsLive old h × (new ≡ old)
HappensOnMap old Step new = new ≡ old
HappensOnMap old (Write position bytes None) new = (v : List ℕ) × (get old position.number ≡ Some v) × (position.from + length bytes ≤ length v)
    × (new ≡ insert old position.number (written v position.from bytes))
HappensOnMap old (Write position bytes (Some e)) new = IsOutOfReach old position (length bytes) e × (new ≡ old)
HappensOnMap old (Read position count (Ok out)) new = (v : List ℕ) × (get old position.number ≡ Some v) × (position.from + count ≤ length v)
    × (out ≡ take count (drop position.from v)) × (new ≡ old)
HappensOnMap old (Read position count (Err e)) new = IsOutOfReach old position count e × (new ≡ old)

-- the calls, made one after the other, turn the map `old` into `new`
abbrev pub RunsOnMap : Objects → List TaskCall → Objects → Type 0
RunsOnMap old [] new = new ≡ old
RunsOnMap old (turn ∷ rest) new = (mid : Objects) × HappensOnMap old turn.event mid × RunsOnMap mid rest new

-- The invariant between two calls: the state satisfies the rules (`IsKept`), the words are those of the state (`HasWords`), and each object holds bytes.
pub record IsConsistent (plan : Plan) (w : HeapWithWords) : Type 0 where
  pub kept : IsKept plan w.state
  pub words : HasWords plan.paging w.state w.words
  pub bytes : (h : ℕ) (v : List ℕ) → get (objects w.state.held) h ≡ Some v → AreBytes v
