-- The heap as the claim of mode `slice` sees it: what the lines of a script and their replies show, which is its objects by id and the pending job. Also the
-- slots and pages that these take, the words that the job has left, and the job after a call.
use Rattle.std.specs.Prelude.{ℕ, Bool, false, ◌+◌, ◌-◌, ◌%◌, ◌&&◌, ◌||◌, Option, Some, None, if◌then◌else◌, nat_eq, nat_lt, not}
use Rattle.run_model.specs.Terms.{at_bound_one, Moving, Paging, Profile, slot_words, slots_of}
use Rattle.page_model.specs.Arrangement.{live, pages_for}
use Rattle.page_model.specs.Paging.{class_for}
use Rattle.script_laws.specs.ById.{ById, begun, paging_by_id}

-- A pending job, which clears a slot or moves an object out of it. `class` is the slot's class, `done` how many words of the slot are done. `filled`: the slot's
-- page was full at some time since the job began, with the slot counted as taken. Once that page is full, the heap places new objects of the class on another
-- page.
pub record ShownJob : Type 0 where
  pub class : ℕ
  pub done : ℕ
  pub filled : Bool

-- the heap as the replies show it: its settings, with the bound 1 in every class, and its objects by id; the quantum in words; and the job, None if none is
-- pending
pub record ShownSlices : Type 0 where
  pub heap : ById
  pub quantum : ℕ
  pub job : Option ShownJob

-- the heap after the `heap` line with the settings `p`, for slices of at most `quantum` words: no object is live and no job is pending
abbrev pub slices_opened : ℕ → Profile → ShownSlices
slices_opened quantum p = record { heap = begun Moving (at_bound_one p); quantum = quantum; job = None }

-- the pages and classes of heap `t`
abbrev pub paging_shown : ShownSlices → Paging
paging_shown t = paging_by_id t.heap

-- the number of slots of class c that the job takes: 1 if its slot is of the class, else 0
abbrev pub job_takes : Option ShownJob → ℕ → ℕ
job_takes None c = 0
job_takes (Some job) c = if nat_eq job.class c then 1 else 0

-- the number of taken slots of class `c` in heap `t`: one for each object of the class, and one for a job in the class
abbrev pub taken_slots : ShownSlices → ℕ → ℕ
taken_slots t c = live (paging_shown t) t.heap.objects c + job_takes t.job c

-- true if the taken slots of class `c` in heap `t` fill whole pages, so that no page of the class need be partly full
abbrev pub are_full : ShownSlices → ℕ → Bool
are_full t c = nat_eq (taken_slots t c % slots_of (paging_shown t) c) 0

-- how many pages the taken slots of heap `t` need, with one more slot for an object of `n` bytes
abbrev pub needed_beside : ShownSlices → ℕ → ℕ
needed_beside t n = pages_for (paging_shown t) (λ c. taken_slots t c + (if nat_eq (class_for (paging_shown t) n) c then 1 else 0))

-- how many words of its slot this job has yet to do, in heap `t`; 0 without a job
abbrev pub words_of_job : ShownSlices → Option ShownJob → ℕ
words_of_job t None = 0
words_of_job t (Some job) = slot_words (paging_shown t) job.class - job.done

-- how many words the pending job of heap `t` has yet to do; 0 without a job
abbrev pub words_left : ShownSlices → ℕ
words_left t = words_of_job t t.job

-- The job after a malloc or a free: `filled` becomes true if the taken slots of its class now fill whole pages (`are_full`), since the page of the job's slot is
-- full then.
abbrev pub job_noted : ShownSlices → Option ShownJob → Option ShownJob
job_noted t None = None
job_noted t (Some job) = Some (record job { filled = job.filled || are_full t job.class })

-- the heap `t` after a malloc or a free changed its objects: its job is updated by `job_noted`
abbrev pub noted : ShownSlices → ShownSlices
noted t = record t { job = job_noted t t.job }

-- The job after a slice. If more words are left than the quantum, the job stays pending, with `quantum` more words done. Else it ends, and its slot is free.
-- If the slot's page was full and another page of the class isn't, two pages are partly full then. So a new job begins, which moves an object from the other
-- page into the slot.
abbrev pub job_sliced : ShownSlices → Option ShownJob → Option ShownJob
job_sliced t None = None
job_sliced t (Some job) =
    if nat_lt (job.done + t.quantum) (slot_words (paging_shown t) job.class) then Some (record job { done = job.done + t.quantum })
    else (if job.filled && not (are_full t job.class) then Some (record { class = job.class; done = 0; filled = false }) else None)

-- the heap `t` after one slice of its job
abbrev pub after_slice : ShownSlices → ShownSlices
after_slice t = record t { job = job_sliced t t.job }
