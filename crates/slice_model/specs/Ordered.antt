-- Calls of a sliced heap that follow its order (`Order`: what it uses next), in which the job's slot counts as used. `was` is the order before a call, `now`
-- after it; m are objects, p has pages and classes.
use Rattle.std.specs.Prelude.{◌≡◌, ℕ, ◌+◌, ◌<◌, ⊤, ◌∷◌, Option, Some, None, Ok, Err}
use Rattle.std.specs.FinMap.{get}
use Rattle.page_model.specs.Arrangement.{class_at}
use Rattle.page_model.specs.Held.{Held, Placed}
use Rattle.page_model.specs.Order.{Order, IsNextToMove, IsOrderOf, MallocFollows, slot_freed}
use Rattle.page_model.specs.Paging.{Paging, page_of, slot_words}
use Rattle.page_model.specs.Steps.{Request}
use Rattle.slice_model.specs.State.{Plan, JobSlot, Job, Sliced, Idle, Clear, Move, job_slot, occupied, with_slot}
use Rattle.slice_model.specs.Steps.{done_after}
use Rattle.slice_model.specs.Runs.{Event, FreesWithWords, Happens, MallocsWithWords, Slices, HeapWithWords, Malloc, Free, Step, Write, Read}

-- the limit of the numbers: the number of proxies, plus one for the placeholder if a job holds a slot
abbrev pub numbers_beside : Plan → Option JobSlot → ℕ
numbers_beside plan None = plan.proxies
numbers_beside plan (Some k) = plan.proxies + 1

-- o is an order of state s: of its objects and, if a job is pending, of the job's placeholder
abbrev pub IsOrderBeside : Plan → Sliced → Order → Type 0
IsOrderBeside plan s o = IsOrderOf plan.paging (occupied plan s) (numbers_beside plan (job_slot s.job)) o

-- a malloc that follows the order: it uses the number and the slot that the order `was` lists next
pub record MallocsInOrder (plan : Plan) (old : HeapWithWords) (asked : Request) (new : HeapWithWords) (was now : Order) : Type 0 where
  pub mallocs : MallocsWithWords plan old asked new
  pub follows : MallocFollows plan.paging (occupied plan old.state) asked mallocs.gives.place was now

-- if a free moves an object q of class c, it is the one that the order o lists next to move
abbrev pub MovesNext : Paging → Held → Order → ℕ → Option ℕ → Type 0
MovesNext p m o c None = ⊤
MovesNext p m o c (Some q) = (y : Placed) × (get m q ≡ Some y) × IsNextToMove p m o c y

-- object q is the one that the order lists next to move into slot k, which the job holds; the order is unchanged, as that slot stays used
pub record CarriesNext (plan : Plan) (m : Held) (k : JobSlot) (q : ℕ) (was now : Order) : Type 0 where
  pub object : Placed
  pub found : get m q ≡ Some object
  pub next : IsNextToMove plan.paging (with_slot plan m (Some k)) was k.class object
  pub same : now ≡ was

-- how the end of the job of slot k changes the order: if no job follows, the slot becomes free; else the next job, which never just clears a slot, moves
-- the object that the order lists next
abbrev pub EndFollows : Plan → Held → JobSlot → Job → Order → Order → Type 0
EndFollows plan m k Idle was now = now ≡ slot_freed plan.paging (with_slot plan m (Some k)) was k.class (page_of plan.paging k.address)
EndFollows plan m k (Clear g) was now = ⊥
EndFollows plan m k (Move q g) was now = CarriesNext plan m k q was now

-- how a slice of the job of slot k, which leaves the job `after`, changes the order: not at all, unless it ends the job
pub record JobFollows (plan : Plan) (m : Held) (k : JobSlot) (after : Job) (was now : Order) : Type 0 where
  pub goes_on : done_after plan k < slot_words plan.paging k.class → now ≡ was
  pub ends : done_after plan k ≡ slot_words plan.paging k.class → EndFollows plan m k after was now

-- how a slice, which leaves the job `after`, changes the order if the pending job holds this slot: not at all if no job is pending
abbrev pub SliceFollows : Plan → Held → Option JobSlot → Job → Order → Order → Type 0
SliceFollows plan m None after was now = now ≡ was
SliceFollows plan m (Some k) after was now = JobFollows plan m k after was now

-- a slice that follows the order: it turns the heap `old` into `new`, and the order `was` into `now`
pub record SlicesInOrder (plan : Plan) (old new : HeapWithWords) (was now : Order) : Type 0 where
  pub slices : Slices plan old new
  pub follows : SliceFollows plan old.state.held (job_slot old.state.job) new.state.job was now

-- a free of object h that follows the order: the object that it moves, if any, is the next one to move, and the next malloc uses the number h. A slot
-- becomes free only when the job ends.
pub record FreesInOrder (plan : Plan) (old : HeapWithWords) (h : ℕ) (new : HeapWithWords) (was now : Order) : Type 0 where
  pub frees : FreesWithWords plan old h new
  pub next : MovesNext plan.paging old.state.held was (class_at plan.paging frees.removes.freed) frees.removes.moved
  pub follows : SliceFollows plan frees.removes.begun.held (job_slot frees.removes.begun.job) new.state.job (record was { spare = h ∷ was.spare }) now

-- a call that follows the order `was` and leaves the order `now`; a refused call, a write and a read leave the order unchanged
abbrev pub HappensInOrder : Plan → HeapWithWords → Event → HeapWithWords → Order → Order → Type 0
HappensInOrder plan old (Malloc bytes (Ok h)) new was now = MallocsInOrder plan old (record { number = h.0; length = bytes }) new was now
HappensInOrder plan old (Malloc bytes (Err e)) new was now = Happens plan old (Malloc bytes (Err e)) new × (now ≡ was)
HappensInOrder plan old (Free h None) new was now = FreesInOrder plan old h new was now
HappensInOrder plan old (Free h (Some e)) new was now = Happens plan old (Free h (Some e)) new × (now ≡ was)
HappensInOrder plan old Step new was now = SlicesInOrder plan old new was now
HappensInOrder plan old (Write part bytes answer) new was now = Happens plan old (Write part bytes answer) new × (now ≡ was)
HappensInOrder plan old (Read part count answer) new was now = Happens plan old (Read part count answer) new × (now ≡ was)
