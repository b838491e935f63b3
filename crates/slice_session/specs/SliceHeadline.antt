-- The claim of every script in mode `slice` (`MeetsSliced`): each reply, but for the word that `p` prints, is a function of its line and the lines before it.
-- `t` is the heap that these show before a command. Also that heap after several slices, and which items aren't `p`.
use Rattle.std.specs.Prelude.{◌≡◌, ⊤, ℕ, zero, suc, false, List, [], ◌∷◌, Option, Some, None, Err, codes, if◌then◌else◌, length, nat_eq, nat_lt, replicate}
use Rattle.run_model.specs.Terms.{asks, Command, Free, get, insert, Item, len, Malloc, need, Objects, Peek, Profile, Read, region_words, remove, Reply, said, Slice, with_number, Write}
use Rattle.page_model.specs.Arrangement.{pages_needed_with}
use Rattle.page_model.specs.Paging.{class_for}
use Rattle.run_model.specs.Plays.{PlayRun}
use Rattle.run_model.specs.Replies.{peek_text}
use Rattle.slice_model.specs.declared.refusals.SliceFault.{SliceFault}
use Rattle.slice_model.specs.declared.refusals.SliceFault.TheVariants as fault
use Rattle.slice_model.specs.declared.refusals.SliceRefusal.{SliceRefusal}
use Rattle.slice_model.specs.declared.refusals.SliceRefusal.TheVariants as refusal
use Rattle.slice_session.specs.SliceRun.{slice_free_text, slice_malloc_text}
use Rattle.script_laws.specs.IdBytes.{read_shown}
use Rattle.script_laws.specs.RepliesById.{objects_after, ok_or, write_said}
use Rattle.slice_session.specs.ShownSlices.{ShownJob, ShownSlices, after_slice, needed_beside, noted, paging_shown, slices_opened, words_left}

-- Why a malloc of `n` bytes is refused; None if it isn't. The first cause that holds: the object is longer than a page (`Size`); all proxies are in use
-- (`Proxy`); the objects with the new one need more pages than there are (`Space`), or would if the job's slot counted as one more object (`Busy`).
abbrev pub slice_refusal : ShownSlices → ℕ → Option SliceRefusal
slice_refusal t n =
    if nat_lt t.heap.profile.page_words (need n) then Some refusal.Size
    else (if nat_eq (len t.heap.objects) t.heap.profile.proxies then Some refusal.Proxy
    else (if nat_lt t.heap.profile.pages (pages_needed_with (paging_shown t) t.heap.objects n) then Some refusal.Space
    else (if nat_lt t.heap.profile.pages (needed_beside t n) then Some refusal.Busy else None)))

-- why a free is refused, by the bytes of the id (None if it isn't live) and by the job: `Unknown` or `Busy`; None if the free is done
abbrev pub slice_fault : Option (List ℕ) → Option ShownJob → Option SliceFault
slice_fault None job = Some fault.Unknown
slice_fault (Some v) None = None
slice_fault (Some v) (Some job) = Some fault.Busy

-- the reply to `m` for `n` bytes, from the bytes that the id names (None if it isn't live)
abbrev pub slice_malloc_line : Option (List ℕ) → ShownSlices → ℕ → List ℕ
slice_malloc_line (Some v) t n = codes "live"
slice_malloc_line None t n = ok_or (λ e. slice_malloc_text (Err e)) (slice_refusal t n)

-- the reply to a command other than `p`; `none` to the commands of other modes
abbrev pub slice_line : ShownSlices → Command → List ℕ
slice_line t (Malloc id n) = slice_malloc_line (get t.heap.objects id) t n
slice_line t (Free id) = slice_free_text (slice_fault (get t.heap.objects id) t.job)
slice_line t Slice = with_number (codes "left ") (words_left (after_slice t))
slice_line t (Write id at bytes) = write_said (get t.heap.objects id) at (length bytes)
slice_line t (Read id at count) = read_shown (get t.heap.objects id) at count
slice_line t command = codes "none"

-- the heap `t` with the objects by id `o` in place of its own
abbrev pub with_objects : ShownSlices → Objects → ShownSlices
with_objects t o = record t { heap = record t.heap { objects = o } }

-- the heap after `m`: the id names n zero bytes; unchanged if the id was live or the malloc is refused
abbrev pub after_malloc : Option (List ℕ) → Option SliceRefusal → ShownSlices → ℕ → ℕ → ShownSlices
after_malloc None None t id n = noted (with_objects t (insert t.heap.objects id (replicate n 0)))
after_malloc None (Some e) t id n = t
after_malloc (Some v) e t id n = t

-- the job that a free of an object with the bytes `v` begins, in a slot of the object's class
abbrev pub job_begun : ShownSlices → List ℕ → ShownJob
job_begun t v = record { class = class_for (paging_shown t) (length v); done = 0; filled = false }

-- the heap after `f`: the object is removed, a job begins, and its first slice is done; unchanged if the id isn't live or a job was pending
abbrev pub after_free : Option (List ℕ) → Option ShownJob → ShownSlices → ℕ → ShownSlices
after_free None job t id = t
after_free (Some v) None t id = after_slice (noted (record (with_objects t (remove t.heap.objects id)) { job = Some (job_begun t v) }))
after_free (Some v) (Some job) t id = t

-- the heap after a command in heap `t`
abbrev pub after : ShownSlices → Command → ShownSlices
after t (Malloc id n) = after_malloc (get t.heap.objects id) (slice_refusal t n) t id n
after t (Free id) = after_free (get t.heap.objects id) t.job t id
after t Slice = after_slice t
after t (Write id at bytes) = with_objects t (objects_after t.heap (Write id at bytes))
after t command = t

-- the heap after n slices
abbrev pub after_slices : ℕ → ShownSlices → ShownSlices
after_slices zero t = t
after_slices (suc n) t = after_slices n (after t Slice)

-- In heap `old` the command may get this reply and leave the heap `new`. The reply to `p` is any word in 16 digits if the region has a word of this number,
-- else `range`. The reply to every other command is determined by the heap.
abbrev pub AnswersSliced : ShownSlices → Command → Reply → ShownSlices → Type 0
AnswersSliced old (Peek word) reply new = (value : ℕ)
    × (reply ≡ said (peek_text (if nat_lt word (region_words old.heap.profile) then Some value else None))) × (new ≡ old)
AnswersSliced old command reply new = (reply ≡ said (slice_line old command)) × (new ≡ after old command)

-- the `heap` line: its reply is `ok`, and the heap is new
abbrev pub OpensSliced : ℕ → Profile → Reply → ShownSlices → Type 0
OpensSliced quantum p reply new = (reply ≡ said (codes "ok")) × (new ≡ slices_opened quantum p)

-- The claim of mode `slice` with slices of at most `quantum` words: there is one reply for each item, and there are heaps between them such that each reply and
-- each heap follow from the item and the heap before.
abbrev pub MeetsSliced : ℕ → List Item → List Reply → Type 0
MeetsSliced quantum items replies = (end : Option ShownSlices) × PlayRun (OpensSliced quantum) AnswersSliced None items replies end

-- the item isn't `p`, which prints a word of the region
abbrev pub AsksForNoWord : Item → Type 0
AsksForNoWord (asks (Peek word)) = ⊥
AsksForNoWord item = ⊤

-- none of the items asks for a word of the region
abbrev pub AreNoPeeks : List Item → Type 0
AreNoPeeks [] = ⊤
AreNoPeeks (item ∷ rest) = AsksForNoWord item × AreNoPeeks rest
