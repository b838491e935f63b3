-- What each call from C does to a `HeldImages`, an open heap whose objects have ids: `old` is its state before the call, `new` after it. `before` and `after`
-- are the caller's number or buffer that the call writes to, and `code` is what the call returns. A refused call changes nothing. Then what a load from an
-- image leaves, and why it fails.
use Rattle.std.specs.Prelude.{◌≡◌, ℕ, ◌<◌, ◌≤◌, ◌⊎◌, ◌++◌, ⊤, ℤ, pos, true, List, Option, Some, None, Result, Err, drop, length, take}
use Rattle.std.specs.FinMap.{get}
use Rattle.cf_base.specs.Settings.{Profile}
use Rattle.cf_base.specs.declared.results.AccessFault.{AccessFault}
use Rattle.cf_base.specs.declared.results.Refusal.{Refusal}
use Rattle.cf_base.specs.declared.kind.Kind.TheVariants.{Moving}
use Rattle.cf_base.specs.declared.kind.Layout.TheVariants.{Words}
use Rattle.cf_model.specs.Steps.{IsReadAnswer, IsRefusedBy, IsWriteStep, ordered_heap}
use Rattle.c_base.specs.Codes.{access_code, malloc_code}
use Rattle.c_base.specs.Handles.{none}
use Rattle.id_table.specs.ById.{bytes_of}
use Rattle.id_table.specs.Named.{FreesNamed, MakesNamed}
use Rattle.id_table.specs.Sessions.{RunState, fresh_session}
use Rattle.heap_image.specs.Decoded.{IsBroken, decoded, whole}
use Rattle.heap_image.specs.Heaps.{heap_image, live_objects}
use Rattle.heap_image.specs.declared.fault.LoadFault.{LoadFault}
use Rattle.heap_image.specs.declared.fault.LoadFault.TheVariants as fault
use Rattle.page_model.specs.Held.{Objects}
use Rattle.page_model.specs.Paging.{first_bounds}
use Rattle.norphuen_images.specs.State.{IsNamed}

-- a heap that was just opened with the settings p: no id is live
pub record IsFreshRun (p : Profile) (new : RunState) : Type 0 where
  pub whole : new.heap ≡ ordered_heap Moving p new.heap.words new.heap.order
  pub session : new.session ≡ fresh_session
  pub named : IsNamed p new

-- no object has the id
abbrev pub NamesNone : RunState → ℕ → Type 0
NamesNone s id = get s.session.ids id ≡ None

-- why no object of `bytes` bytes was made under the id, by the code: 4 (`UNKNOWN`), the id does not fit 16 bits; 20 (`LIVE`), it fits and has an object; or neither holds, and the
-- code is that of the refused malloc, whose cause holds
abbrev pub IsNotMade : RunState → ℕ → ℕ → ℤ → Type 0
IsNotMade old id bytes code = ((code ≡ pos 4) × (65536 ≤ id)) ⊎ ((code ≡ pos 20) × (id < 65536) × (h : ℕ) × (get old.session.ids id ≡ Some h))
    ⊎ ((id < 65536) × NamesNone old id × (e : Refusal) × (code ≡ malloc_code (Err e)) × IsRefusedBy old.heap bytes e)

-- a call that makes an object of `bytes` zeros under the id, which no object had before; or it is refused (`IsNotMade`)
abbrev pub IsMakeCall : RunState → ℕ → ℕ → ℤ → RunState → Type 0
IsMakeCall old id bytes code new = ((code ≡ pos 0) × NamesNone old id × MakesNamed old id bytes true new × IsNamed old.heap.profile new) ⊎ (IsNotMade old id bytes code × (new ≡ old))

-- a call that frees the object of the id; 4 (`UNKNOWN`) if no object has it
abbrev pub IsImagesFreeCall : RunState → ℕ → ℤ → RunState → Type 0
IsImagesFreeCall old id code new = ((code ≡ pos 0) × FreesNamed old id new × IsNamed old.heap.profile new) ⊎ ((code ≡ pos 4) × NamesNone old id × (new ≡ old))

-- the number of the handle of the object that an id names; if no object has the id, `none`, which is the number of no object
abbrev pub number_by : Option ℕ → ℕ
number_by (Some h) = h
number_by None = none

-- a write of `bytes` into the object of the id, from its byte `from` on
pub record IsImagesWriteCall (old : RunState) (id from : ℕ) (bytes : List ℕ) (code : ℤ) (new : RunState) : Type 0 where
  pub answer : Result (Unit {0}) AccessFault
  pub by_code : code ≡ access_code answer
  pub step : IsWriteStep old.heap (record { number = number_by (get old.session.ids id); from = from }) bytes answer new.heap
  pub session : new.session ≡ old.session
  pub named : IsNamed old.heap.profile new

-- a read of the object of the id, from its byte `from` on, into the caller's buffer; the heap is unchanged
pub record IsImagesReadCall (old : RunState) (id from : ℕ) (before : List ℕ) (code : ℤ) (after : List ℕ) (new : RunState) : Type 0 where
  pub answer : Result (Unit {0}) AccessFault
  pub by_code : code ≡ access_code answer
  pub read : IsReadAnswer old.heap (record { number = number_by (get old.session.ids id); from = from }) before answer after
  pub kept : new ≡ old

-- a call for the length of the object of the id; 4 (`UNKNOWN`) if no object has it
abbrev pub IsImagesLengthCall : RunState → ℕ → ℕ → ℤ → ℕ → RunState → Type 0
IsImagesLengthCall old id before code after new = IsLengthOf (bytes_of old id) before code after × (new ≡ old)
  where
    IsLengthOf : Option (List ℕ) → ℕ → ℤ → ℕ → Type 0
    IsLengthOf (Some v) before code after = (code ≡ pos 0) × (after ≡ length v)
    IsLengthOf None before code after = (code ≡ pos 4) × (after ≡ before)

-- a call for the length of the heap's image, in bytes; the heap is unchanged
pub record IsImageBytesCall (old : RunState) (code : ℤ) (after : ℕ) (new : RunState) : Type 0 where
  pub by_code : code ≡ pos 0
  pub by_image : after ≡ length (heap_image old)
  pub kept : new ≡ old

-- What a caller in C has after a save: the bytes of its buffer, and its number of bytes written.
pub record Saved : Type 0 where
  pub out : List ℕ
  pub written : ℕ

-- the bytes written by a save
abbrev pub image_in : Saved → List ℕ
image_in s = take s.written s.out

-- A save of the heap into the caller's buffer. 0: the buffer begins with the image, and its other bytes are unchanged. 5 (`RANGE`): the image is longer than the buffer. The heap is unchanged.
abbrev pub IsSaveCall : RunState → Saved → ℤ → Saved → RunState → Type 0
IsSaveCall old before code after new = (
    (code ≡ pos 0) × (length (heap_image old) ≤ length before.out) × (after.out ≡ heap_image old ++ drop (length (heap_image old)) before.out) × (after.written ≡ length (heap_image old))
    ⊎ ((code ≡ pos 5) × (length before.out < length (heap_image old)) × (after ≡ before))
    ) × (new ≡ old)

-- the settings p, but with the bound k
abbrev pub at_bound : ℕ → Profile → Profile
at_bound k p = record p { k = k }

-- these bytes are an image, and the heap has its settings, but with the bound k, and its objects; the bound of each class is k
pub record HoldsImage (bytes : List ℕ) (k : ℕ) (new : RunState) : Type 0 where
  pub profile : Profile
  pub objects : Objects
  pub reads : decoded bytes ≡ whole profile objects
  pub named : IsNamed (at_bound k profile) new
  pub bounds : new.heap.bounds ≡ first_bounds (at_bound k profile) Words
  pub holds : live_objects new ≡ objects

-- why a load of these bytes failed: they are no image, as the field at the offset `at` shows; or out of memory
abbrev pub IsLoadFault : List ℕ → LoadFault → Type 0
IsLoadFault bytes (fault.Bad at) = IsBroken bytes at
IsLoadFault bytes fault.Read = ⊥
IsLoadFault bytes fault.OutOfMemory = ⊤
