-- The exact steps of malloc, free, `step`, read, write and `length` of a sliced heap and of their parts, computed from its settings (`plan`), the state s
-- before the call, the order o of that state, and the result; and the test whether a free must move an object. Each comment on steps lists what they pay for.
use Rattle.std.specs.Prelude.{ℕ, ◌+◌, ◌-◌, Bool, ◌&&◌, Option, Some, None, Result, Ok, Err, nat_eq, nat_le, nat_lt, if◌then◌else◌}
use Rattle.std.specs.FinMap.{get}
use Rattle.cf_base.specs.declared.results.AccessFault.{AccessFault}
use Rattle.cf_base.specs.declared.results.AccessFault.TheVariants as access
use Rattle.cf_base.specs.declared.results.Handle.{Handle}
use Rattle.cf_model.specs.Costs.{words_touched}
use Rattle.page_model.specs.Arrangement.{class_at, not_full_pages, objects_on}
use Rattle.page_model.specs.Held.{Held, Placed}
use Rattle.page_model.specs.Order.{Order, steps_to_drop, steps_to_fill, steps_to_take}
use Rattle.page_model.specs.Paging.{Paging, bound_of, class_for, page_of, slot_words, slots_of}
use Rattle.slice_model.specs.declared.job_slot.JobSlot.{JobSlot}
use Rattle.slice_model.specs.State.{Job, Plan, Sliced, Idle, Clear, Move, occupied, placeholder, with_slot}
use Rattle.slice_model.specs.declared.refusals.SliceFault.{SliceFault}
use Rattle.slice_model.specs.declared.refusals.SliceRefusal.{SliceRefusal}
use Rattle.slice_model.specs.declared.refusals.SliceRefusal.TheVariants as refusal

-- A malloc of `bytes` bytes: finding the class, taking its next slot, binding a proxy (2), and writing the header. A refused malloc only finds the class, and
-- for `Busy` also looks for a slot (2).
abbrev pub sliced_malloc_cost : Plan → Sliced → Order → ℕ → Result Handle SliceRefusal → ℕ
sliced_malloc_cost plan s o bytes (Ok h) = 4 + steps_to_take plan.paging (occupied plan s) o (class_for plan.paging bytes)
sliced_malloc_cost plan s o bytes (Err refusal.Size) = 1
sliced_malloc_cost plan s o bytes (Err refusal.Proxy) = 1
sliced_malloc_cost plan s o bytes (Err refusal.Space) = 1
sliced_malloc_cost plan s o bytes (Err refusal.Busy) = 3

-- whether a free of the object x of the arrangement m must move another object into its slot: the test of `MustMove`
abbrev pub must_move : Paging → Held → Placed → Bool
must_move p m x =
    nat_eq (objects_on p m (class_at p x) (page_of p x.place)) (slots_of p (class_at p x))
    && (nat_lt 1 (slots_of p (class_at p x)) && nat_eq (not_full_pages p m (class_at p x)) (bound_of p (class_at p x)))

-- the steps of a slice of at most q words, 1 for each word, if n words of the job are left before it; `last` steps more if it does all of them
abbrev pub words_steps : ℕ → ℕ → ℕ → ℕ
words_steps q n last = if nat_le n q then n + last else q

-- The end of the job of slot k, beside the objects m: testing whether an object must move into the slot. If so, also finding it (3), reading its header and
-- setting its proxy; else freeing the slot.
abbrev pub end_cost : Plan → Held → JobSlot → ℕ
end_cost plan m k =
    if must_move plan.paging (with_slot plan m (Some k)) (placeholder plan.paging k) then 6
    else 1 + steps_to_drop plan.paging (with_slot plan m (Some k)) k.class (page_of plan.paging k.address)

-- a slice of a job with slot k, beside the objects m: its words, and the end of the job if it does all that are left
abbrev pub part_cost : Plan → Held → JobSlot → ℕ
part_cost plan m k = words_steps plan.quantum (slot_words plan.paging k.class - k.done) (end_cost plan m k)

-- a slice of this job, beside the objects m; if it moves an object, also reading the object's proxy
abbrev pub job_cost : Plan → Held → Job → ℕ
job_cost plan m Idle = 0
job_cost plan m (Clear k) = part_cost plan m k
job_cost plan m (Move h k) = 1 + part_cost plan m k

-- a slice in the state s
abbrev pub slice_cost : Plan → Sliced → ℕ
slice_cost plan s = job_cost plan s.held s.job

-- Removing the object x, whose proxy was read, and the first slice of the job that this leaves: reading the header, finding the class, releasing the proxy (2),
-- and testing whether another object must move. If so, also finding it (3), reading its header, setting its proxy and reading it again. Then the words of the
-- slice; and if these are all words of the slot, the end of the job, at which no object must move. Freeing the slot that an object left takes 2 steps less than
-- finding and freeing it.
abbrev pub removing_cost : Plan → Sliced → Order → Placed → ℕ
removing_cost plan s o x =
    if must_move plan.paging s.held x then
    11 + words_steps plan.quantum (slot_words plan.paging (class_at plan.paging x)) (1 + (steps_to_fill plan.paging s.held o (class_at plan.paging x) - 2))
    else
    5 + words_steps plan.quantum (slot_words plan.paging (class_at plan.paging x))
    (1 + steps_to_drop plan.paging s.held (class_at plan.paging x) (page_of plan.paging x.place))

-- `removing_cost` of object h; 0 if h is not live
abbrev pub freed_cost : Plan → Sliced → Order → ℕ → ℕ
freed_cost plan s o h = elim (get s.held h) [ None ↦ 0 | Some x ↦ removing_cost plan s o x ]

-- a free of object h: reading its proxy, and removing it with the first slice of the job; if refused, only the proxy
abbrev pub sliced_free_cost : Plan → Sliced → Order → ℕ → Option SliceFault → ℕ
sliced_free_cost plan s o h None = 1 + freed_cost plan s o h
sliced_free_cost plan s o h (Some e) = 1

-- a read or a write of `count` bytes from byte `from` on: the proxy, the header, and the words that hold one of the bytes; if refused, only the proxy
-- (`Unknown`), or the proxy and the header (`Range`)
abbrev pub sliced_access_steps : {T : Type 0} → Result T AccessFault → ℕ → ℕ → ℕ
sliced_access_steps (Ok u) from count = 2 + words_touched from count
sliced_access_steps (Err access.Unknown) from count = 1
sliced_access_steps (Err access.Range) from count = 2

-- the length of an object: the proxy and, if the object is live, the header
abbrev pub sliced_length_steps : {T : Type 0} → Option T → ℕ
sliced_length_steps (Some n) = 2
sliced_length_steps None = 1
