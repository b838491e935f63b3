-- What each call of a heap of long objects does, when there is room for a malloc, why a call is refused, and which bytes an object or a part must have for an
-- access. `old` is the state before the call, `new` after it. A `position` names an object by its handle (`number`) and the byte from which the call reads or
-- writes (`from`).
use Rattle.std.specs.Prelude.{◌≡◌, ℕ, ◌+◌, ◌*◌, ◌≤◌, ◌<◌, ◌⊎◌, true, false, List, Some, None, Result, Ok, Err, length, take, drop, replicate}
use Rattle.std.specs.FinMap.{get, insert, remove, empty}
use Rattle.cf_base.specs.declared.results.AccessFault.{AccessFault}
use Rattle.cf_base.specs.declared.results.AccessFault.TheVariants as access
use Rattle.cf_base.specs.declared.results.Handle.{Handle}
use Rattle.cf_base.specs.declared.results.NotLive.{NotLive}
use Rattle.cf_base.specs.declared.results.Refusal.{Refusal}
use Rattle.cf_base.specs.declared.results.Refusal.TheVariants as refusal
use Rattle.cf_base.specs.declared.settings.Settings.{Settings}
use Rattle.page_model.specs.Bytes.{written}
use Rattle.cf_model.specs.Ordered.{KeepsPromise}
use Rattle.cf_model.specs.State.{paging_in}
use Rattle.cf_model.specs.Steps.{IsClosed, IsEmptyHeap, Position, StaysOpen}
use Rattle.large_objects.specs.Large.{KeepsParts, LargeState}
use Rattle.large_objects.specs.InnerObjects.{inner_count, inner_pages_with, inner_lengths, whole_part_bytes, part_count, spine_bytes}

-- the bytes of a whole part under the settings of the heap
abbrev pub part_bytes_in : LargeState → ℕ
part_bytes_in s = whole_part_bytes s.inner.profile

-- `open_heap` succeeded: the heap is open, has no objects, and its inner manager is empty under these settings
pub record IsEmptyLarge (old : LargeState) (settings : Settings) (new : LargeState) : Type 0 where
  pub open_now : new.is_open ≡ true
  pub none : new.objects ≡ empty
  pub inner : IsEmptyHeap old.inner.kind settings new.inner

-- `open_heap` failed with `OutOfMemory`: the heap is closed and has no objects, and the inner manager is unchanged or closed
pub record IsShutLarge (old new : LargeState) : Type 0 where
  pub closed : new.is_open ≡ false
  pub none : new.objects ≡ empty
  pub inner : (new.inner ≡ old.inner) ⊎ IsClosed old.inner new.inner

-- after a call the heap is open under the same settings, and the inner manager promises an order if it did before
pub record StaysOpenLarge (old new : LargeState) : Type 0 where
  pub open_now : new.is_open ≡ true
  pub inner : StaysOpen old.inner new.inner
  pub promise : KeepsPromise old.inner new.inner

-- an object of n bytes fits a page, or its spine does; a whole part has u bytes
abbrev pub FitsSpine : ℕ → ℕ → Type 0
FitsSpine u n = (n ≤ u) ⊎ (spine_bytes u n ≤ u)

-- there are enough proxies for all inner objects and those of one more object of n bytes
abbrev pub HasProxies : LargeState → ℕ → Type 0
HasProxies s n = inner_count (part_bytes_in s) s.objects + length (inner_lengths (part_bytes_in s) n) ≤ s.inner.profile.proxies

-- there are enough pages for all inner objects and those of one more object of n bytes
abbrev pub HasPages : LargeState → ℕ → Type 0
HasPages s n = inner_pages_with (paging_in s.inner) (part_bytes_in s) s.objects n ≤ s.inner.profile.pages

-- the heap has room for one more object of n bytes, so a malloc of n bytes isn't refused
pub record HasLargeRoom (s : LargeState) (n : ℕ) : Type 0 where
  pub fits : FitsSpine (part_bytes_in s) n
  pub proxies : HasProxies s n
  pub pages : HasPages s n

-- A malloc made an object of n zero bytes, which the heap had room for, under a handle that wasn't live.
pub record GivesLarge (old : LargeState) (h n : ℕ) (new : LargeState) : Type 0 where
  pub room : HasLargeRoom old n
  pub unused : get old.objects h ≡ None
  pub given : new.objects ≡ insert old.objects h (replicate n 0)

-- the cause of `Size`: the object is longer than a page, and so is its spine
pub record HasLongSpine (s : LargeState) (n : ℕ) : Type 0 where
  pub long : part_bytes_in s < n
  pub past : part_bytes_in s < spine_bytes (part_bytes_in s) n

-- the cause of `Proxy`: the cause of `Size` doesn't hold, but there would be more inner objects than proxies
pub record LacksProxies (s : LargeState) (n : ℕ) : Type 0 where
  pub fits : FitsSpine (part_bytes_in s) n
  pub past : s.inner.profile.proxies < inner_count (part_bytes_in s) s.objects + length (inner_lengths (part_bytes_in s) n)

-- the cause of `Space`: no other cause holds, but the inner objects would need more pages than there are
pub record LacksPages (s : LargeState) (n : ℕ) : Type 0 where
  pub fits : FitsSpine (part_bytes_in s) n
  pub proxies : HasProxies s n
  pub past : s.inner.profile.pages < inner_pages_with (paging_in s.inner) (part_bytes_in s) s.objects n

-- the cause of each refusal of a malloc of n bytes
abbrev pub IsRefusedLarge : LargeState → ℕ → Refusal → Type 0
IsRefusedLarge s n refusal.Size = HasLongSpine s n
IsRefusedLarge s n refusal.Proxy = LacksProxies s n
IsRefusedLarge s n refusal.Space = LacksPages s n

-- a malloc of n bytes adds the object h, or is refused with the cause e and changes nothing
abbrev pub IsLargeMalloc : LargeState → ℕ → Result Handle Refusal → LargeState → Type 0
IsLargeMalloc old n (Ok h) new = GivesLarge old h.0 n new
IsLargeMalloc old n (Err e) new = IsRefusedLarge old n e × (new ≡ old)

-- a free removed the live object h
pub record FreesLarge (old : LargeState) (h : ℕ) (new : LargeState) : Type 0 where
  pub bytes : List ℕ
  pub found : get old.objects h ≡ Some bytes
  pub left : new.objects ≡ remove old.objects h

-- a free removes the object h, or is refused, since no object has this handle, and changes nothing
abbrev pub IsLargeFree : LargeState → ℕ → Result Unit NotLive → LargeState → Type 0
IsLargeFree old h (Ok u) new = FreesLarge old h new
IsLargeFree old h (Err e) new = (get old.objects h ≡ None) × (new ≡ old)

-- the object is live, and `count` bytes from byte `position.from` on pass its end
pub record PassesLarge (s : LargeState) (position : Position) (count : ℕ) : Type 0 where
  pub bytes : List ℕ
  pub found : get s.objects position.number ≡ Some bytes
  pub past : length bytes < position.from + count

-- the cause of each fault of a read or a write of `count` bytes
abbrev pub IsLargeFault : LargeState → Position → ℕ → AccessFault → Type 0
IsLargeFault s position count access.Unknown = get s.objects position.number ≡ None
IsLargeFault s position count access.Range = PassesLarge s position count

-- a write put the bytes into the object, from byte `position.from` on, and no other object changed
pub record WritesLarge (old : LargeState) (position : Position) (bytes : List ℕ) (new : LargeState) : Type 0 where
  pub object : List ℕ
  pub found : get old.objects position.number ≡ Some object
  pub within : position.from + length bytes ≤ length object
  pub left : new.objects ≡ insert old.objects position.number (written object position.from bytes)

-- a write replaces bytes of an object, or is refused with the cause e and changes nothing
abbrev pub IsLargeWrite : LargeState → Position → List ℕ → Result Unit AccessFault → LargeState → Type 0
IsLargeWrite old position bytes (Ok u) new = WritesLarge old position bytes new
IsLargeWrite old position bytes (Err e) new = IsLargeFault old position (length bytes) e × (new ≡ old)

-- a read returned `count` bytes of the live object, from byte `position.from` on
pub record ReadsLarge (s : LargeState) (position : Position) (count : ℕ) (bytes : List ℕ) : Type 0 where
  pub object : List ℕ
  pub found : get s.objects position.number ≡ Some object
  pub within : position.from + count ≤ length object
  pub value : bytes ≡ take count (drop position.from object)

-- a read into a buffer, `room` before and `out` after, fills it with bytes of an object, or is refused with the cause e and leaves it unchanged
abbrev pub IsLargeRead : LargeState → Position → List ℕ → Result Unit AccessFault → List ℕ → Type 0
IsLargeRead s position room (Ok u) out = ReadsLarge s position (length room) out
IsLargeRead s position room (Err e) out = IsLargeFault s position (length room) e × (out ≡ room)

-- the object h is longer than a page, and its part i has `count` bytes from byte `at` of the part on
pub record HasPartRange (s : LargeState) (h i at count : ℕ) : Type 0 where
  pub bytes : List ℕ
  pub found : get s.objects h ≡ Some bytes
  pub long : part_bytes_in s < length bytes
  pub below : i < part_count (part_bytes_in s) (length bytes)
  pub inside : at + count ≤ part_bytes_in s
  pub within : part_bytes_in s * i + at + count ≤ length bytes

-- the object h is longer than a page, and has `count` bytes from byte `at` on
pub record HasLong (s : LargeState) (h at count : ℕ) : Type 0 where
  pub bytes : List ℕ
  pub found : get s.objects h ≡ Some bytes
  pub long : part_bytes_in s < length bytes
  pub within : at + count ≤ length bytes

-- the object h fits a page, and has `count` bytes from byte `at` on
pub record HasShort (s : LargeState) (h at count : ℕ) : Type 0 where
  pub bytes : List ℕ
  pub found : get s.objects h ≡ Some bytes
  pub short : length bytes ≤ part_bytes_in s
  pub within : at + count ≤ length bytes

-- after a call the heap is open under the same settings and keeps its rules (`KeepsParts`)
pub record StaysKept (old new : LargeState) : Type 0 where
  pub stays : StaysOpenLarge old new
  pub parts : KeepsParts new
