-- What each call of a task, by its result, does to the state of the heap that tasks share: `old` is the state before the call, `new` after it. Also what
-- `figures` and `length` return in a state.
use Rattle.std.specs.Prelude.{◌≡◌, ℕ, ◌+◌, ◌<◌, ◌≤◌, List, Option, Some, None, Result, Ok, Err, length, option_map, take, drop, if◌then◌else◌, nat_lt, slice_set}
use Rattle.std.specs.FinMap.{get, insert}
use Rattle.cf_base.specs.declared.results.AccessFault.{AccessFault}
use Rattle.cf_base.specs.declared.results.AccessFault.TheVariants.{Unknown, Range}
use Rattle.cf_base.specs.declared.results.Figures.{Figures}
use Rattle.cf_base.specs.declared.results.Freed.{Freed}
use Rattle.cf_base.specs.declared.results.Handle.{Handle}
use Rattle.cf_base.specs.declared.results.NotLive.{NotLive}
use Rattle.cf_base.specs.declared.results.Refusal.{Refusal}
use Rattle.cf_model.specs.Steps.{Position, number_of}
use Rattle.page_model.specs.Bytes.{written}
use Rattle.page_model.specs.Figures.{figures_of}
use Rattle.page_model.specs.Held.{Held, Placed}
use Rattle.page_model.specs.Image.{slot_for}
use Rattle.page_model.specs.Paging.{classes}
use Rattle.page_model.specs.Steps.{Request}
use Rattle.quota_model.specs.Parts.{key_of}
use Rattle.quota_model.specs.Refusals.{malloc_refusal, quota_refusal, task_paging}
use Rattle.quota_model.specs.Shared.{PlacesForTask, RemovesForTask}
use Rattle.quota_model.specs.declared.results.QuotaFault.{QuotaFault}
use Rattle.quota_heap.specs.State.{QuotaState, held_by, objects_by, quota_of}

-- the state s with the objects m and these words in place of its own
abbrev pub with_held : QuotaState → Held → List ℕ → QuotaState
with_held s m words = record s { held = m; words = words }

-- a call that sets the quota of a task to n pages: if no cause of refusal holds, it sets the quota and changes nothing else; if one holds, it fails with this
-- cause and changes nothing
abbrev pub IsQuotaStep : QuotaState → ℕ → ℕ → Result Unit QuotaFault → QuotaState → Type 0
IsQuotaStep old task n (Ok done) new = (quota_refusal old.profile old.quotas task n (objects_by old task) ≡ None)
    × (new ≡ record old { quotas = slice_set old.quotas task n })
IsQuotaStep old task n (Err e) new = (quota_refusal old.profile old.quotas task n (objects_by old task) ≡ Some e) × (new ≡ old)

-- a malloc of a task that is not refused: it adds an object of zeros with the number and the length of `asked`, and changes only the objects and the words
pub record AddsObjectOfTask (old : QuotaState) (task : ℕ) (asked : Request) (new : QuotaState) : Type 0 where
  pub granted : malloc_refusal old.profile (quota_of old task) (objects_by old task) asked.length ≡ None
  pub placed : PlacesForTask old.profile old.held task asked new.held
  pub whole : new ≡ with_held old new.held new.words

-- a malloc of n bytes adds an object of the task, or is refused and changes nothing
abbrev pub IsTaskMallocStep : QuotaState → ℕ → ℕ → Result Handle Refusal → QuotaState → Type 0
IsTaskMallocStep old task n (Ok h) new = AddsObjectOfTask old task (record { number = h.0; length = n }) new
IsTaskMallocStep old task n (Err e) new = (malloc_refusal old.profile (quota_of old task) (objects_by old task) n ≡ Some e) × (new ≡ old)

-- a free of the live object h of a task: it removes h, and moves another object of the task to its slot if it must; `freed` has the words of the slot and
-- the number of the object that moved, if one did
pub record FreesOfTask (old : QuotaState) (task h : ℕ) (freed : Freed) (new : QuotaState) : Type 0 where
  pub removed : RemovesForTask old.profile old.held task h (number_of freed.moved) new.held
  pub slot : freed.slot_words ≡ slot_for (task_paging old.profile) (length (removed.freed).bytes)
  pub whole : new ≡ with_held old new.held new.words

-- a free removes the task's object h; if h is not live, it fails and changes nothing
abbrev pub IsTaskFreeStep : QuotaState → ℕ → ℕ → Result Freed NotLive → QuotaState → Type 0
IsTaskFreeStep old task h (Ok freed) new = FreesOfTask old task h freed new
IsTaskFreeStep old task h (Err e) new = (get (held_by old task) h ≡ None) × (new ≡ old)

-- the task's object `position.number` is live, but `position.from` plus `count` exceeds the object's length
pub record PassesTaskEnd (s : QuotaState) (task : ℕ) (position : Position) (count : ℕ) : Type 0 where
  pub object : Placed
  pub found : get (held_by s task) position.number ≡ Some object
  pub past : length object.bytes < position.from + count

-- the cause of each refusal of a read or a write of `count` bytes: the task has no such object, or the bytes pass its end
abbrev pub IsTaskFault : QuotaState → ℕ → Position → ℕ → AccessFault → Type 0
IsTaskFault s task position count Unknown = get (held_by s task) position.number ≡ None
IsTaskFault s task position count Range = PassesTaskEnd s task position count

-- a write that is not refused: the task's object `position.number` has these bytes from byte `position.from` on, and no other object changes
pub record WritesForTask (old : QuotaState) (task : ℕ) (position : Position) (bytes : List ℕ) (new : QuotaState) : Type 0 where
  pub object : Placed
  pub found : get (held_by old task) position.number ≡ Some object
  pub within : position.from + length bytes ≤ length object.bytes
  pub whole : new ≡ with_held old
      (insert old.held (key_of task position.number) (record { place = object.place; bytes = written object.bytes position.from bytes })) new.words

-- a write changes bytes of the task's object, or fails for its cause and changes nothing
abbrev pub IsTaskWriteStep : QuotaState → ℕ → Position → List ℕ → Result Unit AccessFault → QuotaState → Type 0
IsTaskWriteStep old task position bytes (Ok done) new = WritesForTask old task position bytes new
IsTaskWriteStep old task position bytes (Err e) new = IsTaskFault old task position (length bytes) e × (new ≡ old)

-- a read that is not refused returns `count` bytes of the task's object `position.number` from byte `position.from` on
pub record ReadsOfTask (s : QuotaState) (task : ℕ) (position : Position) (count : ℕ) (out : List ℕ) : Type 0 where
  pub object : Placed
  pub found : get (held_by s task) position.number ≡ Some object
  pub within : position.from + count ≤ length object.bytes
  pub value : out ≡ take count (drop position.from object.bytes)

-- a read into a buffer that holds `old` before and `out` after it: it fills the buffer with bytes of the task's object, or fails for its cause and leaves the
-- buffer unchanged
abbrev pub IsTaskReadAnswer : QuotaState → ℕ → Position → List ℕ → Result Unit AccessFault → List ℕ → Type 0
IsTaskReadAnswer s task position old (Ok done) out = ReadsOfTask s task position (length old) out
IsTaskReadAnswer s task position old (Err e) out = IsTaskFault s task position (length old) e × (out ≡ old)

-- the figures of class c of a task; none if there is no such class
abbrev pub figures_by : QuotaState → ℕ → ℕ → Option Figures
figures_by s task c = if nat_lt c (classes (task_paging s.profile)) then Some (figures_of (task_paging s.profile) (held_by s task) c) else None

-- the number of bytes of the task's object h; none if it is not live
abbrev pub length_by : QuotaState → ℕ → ℕ → Option ℕ
length_by s task h = option_map (λ (x : Placed). length x.bytes) (get (held_by s task) h)
