-- What a malloc, a free and a slice do to the state of a sliced heap, and why a malloc or a free is refused. p has the pages and classes, m are objects, k is
-- the job's slot.
use Rattle.std.specs.Prelude.{◌≡◌, ◌≢◌, ℕ, zero, suc, ◌+◌, ◌-◌, ◌<◌, ◌≤◌, ◌⊎◌, Option, Some, None, min}
use Rattle.std.specs.FinMap.{get, insert, remove, len}
use Rattle.cf_base.specs.Classes.{need}
use Rattle.page_model.specs.Held.{Held, Placed, objects}
use Rattle.page_model.specs.Paging.{Paging, slot_words, slots_of, page_of, class_for}
use Rattle.page_model.specs.Arrangement.{class_at, objects_on, not_full_pages, pages_needed_with}
use Rattle.page_model.specs.Steps.{Request, Moves, zeros_at}
use Rattle.slice_model.specs.State.{Plan, JobSlot, Job, Sliced, NoPlace, IsPlaceFor, job_slot, advanced, Idle, Clear, Move}
use Rattle.slice_model.specs.declared.refusals.SliceRefusal.{SliceRefusal}
use Rattle.slice_model.specs.declared.refusals.SliceRefusal.TheVariants as refusal
use Rattle.slice_model.specs.declared.refusals.SliceFault.{SliceFault}
use Rattle.slice_model.specs.declared.refusals.SliceFault.TheVariants as fault

-- A malloc is done: the object `asked` fits a page, a proxy is free, and the object is added, all zeros, in a slot that it may use, under a number that
-- wasn't in use. The job is unchanged.
pub record AddsSlicedObject (plan : Plan) (old : Sliced) (asked : Request) (new : Sliced) : Type 0 where
  pub fits : need asked.length ≤ plan.paging.page_words
  pub few : len old.held < plan.proxies
  pub in_range : asked.number < plan.proxies
  pub unused : get old.held asked.number ≡ None
  pub place : ℕ
  pub free : IsPlaceFor plan.paging old (class_for plan.paging asked.length) place
  pub placed : new ≡ record old { held = insert old.held asked.number (zeros_at place asked.length) }

-- the cause of `Proxy` for a malloc of `bytes` bytes: the object would fit a page, but all proxies are in use
pub record LacksSlicedProxy (plan : Plan) (s : Sliced) (bytes : ℕ) : Type 0 where
  pub fits : need bytes ≤ plan.paging.page_words
  pub all : len s.held ≡ plan.proxies

-- the cause of `Space` for a malloc of `bytes` bytes: the object fits a page and a proxy is free, but the objects and the new one need more pages than the
-- heap has
pub record LacksSlicedSpace (plan : Plan) (s : Sliced) (bytes : ℕ) : Type 0 where
  pub fits : need bytes ≤ plan.paging.page_words
  pub few : len s.held < plan.proxies
  pub over : plan.paging.pages < pages_needed_with plan.paging (objects s.held) bytes

-- the cause of `Busy` for a malloc of `bytes` bytes: the object fits a page, a proxy is free and the pages are enough, but no slot of the class is usable
-- and no page is free
pub record LacksUsableSlot (plan : Plan) (s : Sliced) (bytes : ℕ) : Type 0 where
  pub fits : need bytes ≤ plan.paging.page_words
  pub few : len s.held < plan.proxies
  pub within : pages_needed_with plan.paging (objects s.held) bytes ≤ plan.paging.pages
  pub lacking : NoPlace plan.paging s (class_for plan.paging bytes)

-- what holds of state s if a malloc of `bytes` bytes is refused with this reply
abbrev pub IsSlicedRefusedBy : Plan → Sliced → ℕ → SliceRefusal → Type 0
IsSlicedRefusedBy plan s bytes refusal.Size = plan.paging.page_words < need bytes
IsSlicedRefusedBy plan s bytes refusal.Proxy = LacksSlicedProxy plan s bytes
IsSlicedRefusedBy plan s bytes refusal.Space = LacksSlicedSpace plan s bytes
IsSlicedRefusedBy plan s bytes refusal.Busy = LacksUsableSlot plan s bytes

-- the slot of class c at address a when a job on it begins: none of its words is done
abbrev pub fresh_slot : ℕ → ℕ → JobSlot
fresh_slot a c = record { address = a; class = c; done = 0 }

-- A job begins that moves object q of m: the object gets the address a at once, and the job has to move its words there from its old slot, of class c.
pub record BeginsMove (m : Held) (q a c : ℕ) (new : Sliced) : Type 0 where
  pub object : Placed
  pub found : get m q ≡ Some object
  pub whole : new ≡ record { held = insert m q (record { place = a; bytes = object.bytes }); job = Move q (fresh_slot object.place c) }

-- A job begins after an object was removed from the slot of class c at address a, and the objects m are left: the job moves object q into that slot, or, if
-- no object is to move, clears the slot.
abbrev pub LeavesJob : Held → ℕ → ℕ → Option ℕ → Sliced → Type 0
LeavesJob m a c None new = new ≡ record { held = m; job = Clear (fresh_slot a c) }
LeavesJob m a c (Some q) new = BeginsMove m q a c new

-- object q is of class c, and on a partly full page other than that of address a
pub record IsBeside (p : Paging) (m : Held) (a c q : ℕ) : Type 0 where
  pub object : Placed
  pub found : get m q ≡ Some object
  pub class : class_at p object ≡ c
  pub page : page_of p object.place ≢ page_of p a
  pub not_full : objects_on p m c (page_of p object.place) < slots_of p c

-- The job of slot k has done its last word, and another follows, since two pages of the class are partly full: it moves an object of the other page into
-- slot k.
pub record BeginsNextMove (p : Paging) (m : Held) (k : JobSlot) (new : Sliced) : Type 0 where
  pub two : not_full_pages p m k.class ≡ 2
  pub object : ℕ
  pub beside : IsBeside p m k.address k.class object
  pub carries : BeginsMove m object k.address k.class new

-- The state `new` after the job of slot k has done its last word: no job is pending, or, if two pages of the class are partly full, the next job begins.
abbrev pub EndsJob : Paging → Held → JobSlot → Sliced → Type 0
EndsJob p m k new = ((not_full_pages p m k.class ≢ 2) × (new ≡ record { held = m; job = Idle })) ⊎ BeginsNextMove p m k new

-- how many words of slot k are done after one more slice: a quantum more, but at most all
abbrev pub done_after : Plan → JobSlot → ℕ
done_after plan k = k.done + min plan.quantum (slot_words plan.paging k.class - k.done)

-- a slice that does not end the job of slot k: some of its words are still to do
pub record GoesOn (plan : Plan) (old : Sliced) (k : JobSlot) (new : Sliced) : Type 0 where
  pub left : done_after plan k < slot_words plan.paging k.class
  pub whole : new ≡ record old { job = advanced old.job (done_after plan k) }

-- a slice that ends the job of slot k: all its words are done
pub record IsDone (plan : Plan) (old : Sliced) (k : JobSlot) (new : Sliced) : Type 0 where
  pub all : done_after plan k ≡ slot_words plan.paging k.class
  pub ends : EndsJob plan.paging old.held k new

-- what a slice does to state `old` if its job holds this slot: the job goes on or ends; nothing changes if no job is pending
abbrev pub SliceOf : Plan → Sliced → Option JobSlot → Sliced → Type 0
SliceOf plan old None new = new ≡ old
SliceOf plan old (Some k) new = GoesOn plan old k new ⊎ IsDone plan old k new

-- a slice of the pending job turns state `old` into `new`; nothing changes if no job is pending
abbrev pub IsSlice : Plan → Sliced → Sliced → Type 0
IsSlice plan old new = SliceOf plan old (job_slot old.job) new

-- n slices, with no other call in between, turn state `old` into `new`
abbrev pub AreSlices : Plan → ℕ → Sliced → Sliced → Type 0
AreSlices plan zero old new = new ≡ old
AreSlices plan (suc n) old new = (mid : Sliced) × IsSlice plan old mid × AreSlices plan n mid new

-- j is what is pending right after the job of slot k has ended: no job, or the next one of the same class, which moves an object and has no word done yet
abbrev pub IsOver : JobSlot → Job → Type 0
IsOver k j = (j ≡ Idle) ⊎ ((h : ℕ) × (g : JobSlot) × (j ≡ Move h g) × (g.class ≡ k.class) × (g.done ≡ 0))

-- A free of object h is done, while no job is pending. The object is removed, and a job begins (state `begun`): it holds the freed slot, or, if object
-- `moved` moves there, the old slot of that object. The first slice of the job is part of the free.
pub record RemovesSlicedObject (plan : Plan) (old : Sliced) (h : ℕ) (new : Sliced) : Type 0 where
  pub idle : old.job ≡ Idle
  pub freed : Placed
  pub found : get old.held h ≡ Some freed
  pub moved : Option ℕ
  pub moves : Moves plan.paging old.held freed moved
  pub begun : Sliced
  pub begins : LeavesJob (remove old.held h) freed.place (class_at plan.paging freed) moved begun
  pub slice : IsSlice plan begun new

-- the cause of `Busy` for a free of object h: it is live, and a job is pending
pub record MustWait (s : Sliced) (h : ℕ) : Type 0 where
  pub object : Placed
  pub found : get s.held h ≡ Some object
  pub pending : s.job ≢ Idle

-- what holds of state s if a free of number h is refused with this reply
abbrev pub IsFaultOf : Sliced → ℕ → SliceFault → Type 0
IsFaultOf s h fault.Unknown = get s.held h ≡ None
IsFaultOf s h fault.Busy = MustWait s h
