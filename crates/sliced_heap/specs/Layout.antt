-- From the fields of an open sliced heap: the settings, the objects, the job, the words, the tables and the order; whether one more object needs one more page
-- (`opens`); the heap's invariant (`IsValid`); and what a heap is that was just opened (`IsNew`). An object's bytes are those that the words have when the job
-- is done.
use Rattle.std.specs.Prelude.{◌≡◌, ℕ, ◌+◌, ◌-◌, ◌*◌, ◌%◌, ◌≤◌, ◌<◌, List, Option, Some, None, length, replicate, slice_index, nat_eq, if◌then◌else◌}
use Rattle.std.specs.Ordering.{nat_cmp}
use Rattle.std.specs.FinMap.{FinMap, get, empty}
use Rattle.cf_base.specs.Settings.{Profile}
use Rattle.cf_base.specs.declared.settings.Settings.{Settings}
use Rattle.cf_base.specs.declared.kind.Layout.TheVariants.{Words}
use Rattle.page_model.specs.Arrangement.{live, pages_needed}
use Rattle.page_model.specs.Bytes.{held_at}
use Rattle.page_model.specs.Figures.{asked_bytes, taken_bytes}
use Rattle.page_model.specs.Held.{objects}
use Rattle.page_model.specs.Order.{Order, first_order}
use Rattle.page_model.specs.Paging.{Paging, classes, first_bounds, paging_of, slot_words}
use Rattle.region.specs.Words.{cleared, moved}
use Rattle.size_classes.specs.Table.{table_of}
use Rattle.proxy_table.specs.Proxies.{AreBelowLimit}
use Rattle.page_slots.specs.Tables.{Tables, tables}
use Rattle.page_slots.specs.Occupying.{Occupies, FitPages}
use Rattle.page_slots.specs.Orders.{order_of}
use Rattle.slice_model.specs.declared.job_slot.JobSlot.{JobSlot}
use Rattle.slice_model.specs.State.{Plan, Job, Sliced, IsKept, occupied, Idle, Clear, Move}
use Rattle.slice_model.specs.Words.{HasWords}
use Rattle.slice_model.specs.Runs.{HeapWithWords}
use Rattle.sliced_heap.specs.Heap.{Heap}

-- the settings as the model has them, with bound 1 in place of their own
abbrev pub profile_at : Settings → Profile
profile_at s = record { pages = s.pages; page_words = s.page_words; k = 1; proxies = s.proxies }

-- the pages and classes of a heap with these settings
abbrev pub paging_for : Settings → Paging
paging_for s = paging_of (profile_at s) Words (first_bounds (profile_at s) Words)

-- the pages and classes of an open heap
abbrev pub sliced_paging : Heap → Paging
sliced_paging h = paging_for h.settings

-- the model's settings of an open heap: its pages and classes, its proxies and its quantum
abbrev pub plan_of : Heap → Plan
plan_of h = record { paging = paging_for h.settings; proxies = h.settings.proxies; quantum = h.quantum }

-- the words as they will be when the move from slot k is done: the words of the slot that are yet to move are at the moving object's address a; unchanged if
-- it has no address
abbrev pub words_after_move : Paging → JobSlot → Option ℕ → List ℕ → List ℕ
words_after_move p k None words = words
words_after_move p k (Some a) words = moved words (k.address + k.done) (a + k.done) (slot_words p k.class - k.done)

-- the words as they will be when the job is done; p holds the pages and the classes, and `places` the objects' addresses by number
abbrev pub words_after_job : Paging → Job → FinMap nat_cmp ℕ → List ℕ → List ℕ
words_after_job p Idle places words = words
words_after_job p (Clear k) places words = cleared words (k.address + k.done) (slot_words p k.class - k.done)
words_after_job p (Move q k) places words = words_after_move p k (get places q) words

-- the model's state: the objects, whose bytes are read from the words as they will be when the job is done (`words_after_job`), and the job
abbrev pub sliced_state_of : Heap → Sliced
sliced_state_of h = record { held = held_at (words_after_job (sliced_paging h) h.job h.proxies.places h.words) h.proxies.places; job = h.job }

-- the model's state, and the words as they are now: a pending job has changed only some of those of its slot
abbrev pub working_of : Heap → HeapWithWords
working_of h = record { state = sliced_state_of h; words = h.words }

-- the heap's tables of used slots, page lists and free pages
abbrev pub sliced_tables_in : Heap → Tables
sliced_tables_in h = tables h.maps h.lists h.pool

-- the order: what the heap uses next, by its tables and its list of spare numbers
abbrev pub sliced_order_in : Heap → Order
sliced_order_in h = order_of (classes (sliced_paging h)) (sliced_tables_in h) h.proxies.free

-- the number of pages, 1 or 0, that one more object adds to those of n objects, with m slots to a page
abbrev pub opens : ℕ → ℕ → ℕ
opens m n = if nat_eq (n % m) 0 then 1 else 0

-- The invariant of an open heap h. `kept`: the objects and the job keep the rules of the model. `words`: each word of the region is as the objects and the
-- job determine it. `serve` and `occupied`: the tables have the used slots of the objects and of the job, and no others. `counted` and `needed`: the counts
-- are those of the objects, and the pages needed are no more than there are (`within`); `live` has 128 entries, more than any heap has classes. `asked_all` and
-- `taken_all`: the bytes are those of the objects and of their slots. The others: the tables and the region have the sizes of the settings, each number, live or
-- free, is below the number of proxies (`handles`), and the quantum is at least one word.
pub record IsValid (h : Heap) : Type 0 where
  pub table : h.classes ≡ table_of h.settings.page_words Words
  pub quantum : 1 ≤ h.quantum
  pub words_long : length h.words ≡ h.settings.pages * h.settings.page_words
  pub kept : IsKept (plan_of h) (sliced_state_of h)
  pub words : HasWords (sliced_paging h) (sliced_state_of h) h.words
  pub serve : FitPages (sliced_paging h) (sliced_tables_in h)
  pub occupied : Occupies (sliced_paging h) (occupied (plan_of h) (sliced_state_of h)) (sliced_tables_in h)
  pub numbers : h.proxies.limit ≡ h.settings.proxies
  pub handles : AreBelowLimit h.proxies
  pub live_long : length h.live ≡ 128
  pub counted : (c : ℕ) → c < classes (sliced_paging h) → slice_index h.live c ≡ live (sliced_paging h) (objects (sliced_state_of h).held) c
  pub needed : h.needed ≡ pages_needed (sliced_paging h) (objects (sliced_state_of h).held)
  pub within : h.needed ≤ h.settings.pages
  pub asked_all : h.asked ≡ asked_bytes (objects (sliced_state_of h).held)
  pub taken_all : h.taken ≡ taken_bytes (sliced_paging h) (objects (sliced_state_of h).held)

-- h is a heap that was just opened with the settings s and slices of at most n words: it has no object and no job, and all its words are 0
pub record IsNew (s : Settings) (n : ℕ) (h : Heap) : Type 0 where
  pub settings : h.settings ≡ s
  pub quantum : h.quantum ≡ n
  pub working : working_of h ≡ record { state = record { held = empty; job = Idle }; words = replicate (s.pages * s.page_words) 0 }
  pub order : sliced_order_in h ≡ first_order (paging_for s) s.proxies
