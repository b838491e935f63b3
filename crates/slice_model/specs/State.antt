-- The settings and state of a sliced heap, sizes in words: its objects, at most one pending job and the placeholder in its slot, their rules, the slots a
-- malloc may use. p has pages and classes, m are objects, k is a job's slot.
use Rattle.std.specs.Prelude.{◌≡◌, ◌≢◌, ℕ, ◌+◌, ◌-◌, ◌*◌, ◌<◌, ◌≤◌, ◌⊎◌, ⊤, Option, Some, None, replicate}
use Rattle.std.specs.FinMap.{get, insert}
pub use Rattle.slice_model.specs.declared.job_slot.JobSlot.{JobSlot}
use Rattle.page_model.specs.Held.{Held, Placed}
use Rattle.page_model.specs.Paging.{Paging, IsPaging, EveryBoundIsOne, classes, slot_words, slots_of, page_of}
use Rattle.page_model.specs.Arrangement.{IsSound, IsSlotAt, class_at, objects_on, count_on, not_full_pages}

-- the settings of a sliced heap: its pages and classes, the number of its proxies, and the quantum, the most words that one slice of a job does
pub record Plan : Type 0 where
  pub paging : Paging
  pub proxies : ℕ
  pub quantum : ℕ

-- the settings are valid: the sizes of the classes rise to the page, each class has bound 1, and the quantum is at least one word
pub record IsPlan (plan : Plan) : Type 0 where
  pub paging : IsPaging plan.paging
  pub ones : EveryBoundIsOne plan.paging
  pub quantum : 1 ≤ plan.quantum

-- The pending job: none (`Idle`), to clear a slot (`Clear`), or to move the object with this number from a slot to the object's address (`Move`).
pub data Job : Type 0 where
  Idle : Job
  Clear : JobSlot → Job
  Move : ℕ → JobSlot → Job

-- The state: the objects by number, each with its bytes and its address, and the pending job. An object in motion has its new address from the start of the
-- job on.
pub record Sliced : Type 0 where
  pub held : Held
  pub job : Job

-- the slot that the job holds; none if no job is pending
abbrev pub job_slot : Job → Option JobSlot
job_slot Idle = None
job_slot (Clear k) = Some k
job_slot (Move h k) = Some k

-- the same job with d words of its slot done in all
abbrev pub advanced : Job → ℕ → Job
advanced Idle d = Idle
advanced (Clear k) d = Clear (record k { done = d })
advanced (Move h k) d = Move h (record k { done = d })

-- how many words the job of this slot has yet to do; 0 if no job holds a slot
abbrev pub left_of_slot : Paging → Option JobSlot → ℕ
left_of_slot p None = 0
left_of_slot p (Some k) = slot_words p k.class - k.done

-- how many words the pending job of state s has yet to do; 0 if no job is pending
abbrev pub left_of : Plan → Sliced → ℕ
left_of plan s = left_of_slot plan.paging (job_slot s.job)

-- the placeholder of a job that holds slot k: an object of zeros that has the slot's address and fills the slot
abbrev pub placeholder : Paging → JobSlot → Placed
placeholder p k = record { place = k.address; bytes = replicate (8 * (slot_words p k.class - 1)) 0 }

-- the objects m, and if a job holds slot k its placeholder as one more, under the first number that no object can have
abbrev pub with_slot : Plan → Held → Option JobSlot → Held
with_slot plan m None = m
with_slot plan m (Some k) = insert m plan.proxies (placeholder plan.paging k)

-- the objects of state s, and if a job is pending its placeholder as one more
abbrev pub occupied : Plan → Sliced → Held
occupied plan s = with_slot plan s.held (job_slot s.job)

-- the job of slot k is under way: the slot is of one of the classes, and some of its words are still to do
pub record IsUnderWay (p : Paging) (k : JobSlot) : Type 0 where
  pub class : k.class < classes p
  pub under_way : k.done < slot_words p k.class

-- The job fits the objects m: no job is pending, or the job is under way, and the object that it moves, if it moves one, is live and of the slot's class.
abbrev pub IsJobOf : Paging → Held → Job → Type 0
IsJobOf p m Idle = ⊤
IsJobOf p m (Clear k) = IsUnderWay p k
IsJobOf p m (Move h k) = IsUnderWay p k × ((x : Placed) × (get m h ≡ Some x) × (class_at p x ≡ k.class))

-- The rules of every state: each object's number is below the number of proxies, the job fits the objects, and the objects with the job's placeholder as
-- one more are a sound arrangement.
pub record IsKept (plan : Plan) (s : Sliced) : Type 0 where
  pub numbers : (h : ℕ) (x : Placed) → get s.held h ≡ Some x → h < plan.proxies
  pub job : IsJobOf plan.paging s.held s.job
  pub sound : IsSound plan.paging (occupied plan s)

-- no job holds the slot at address a
abbrev pub IsUnheld : Sliced → ℕ → Type 0
IsUnheld s a = (k : JobSlot) → job_slot s.job ≡ Some k → k.address ≢ a

-- a job holds a slot of class c on this page
abbrev pub IsJobPage : Paging → Sliced → ℕ → ℕ → Type 0
IsJobPage p s c page = (k : JobSlot) × (job_slot s.job ≡ Some k) × (page_of p k.address ≡ page) × (k.class ≡ c)

-- The slot of class c at address a is usable: no object is in it, the job doesn't hold it, and its page holds an object of the class, or the job's slot if
-- this is of the class.
pub record IsUsable (p : Paging) (s : Sliced) (c a : ℕ) : Type 0 where
  pub slot : IsSlotAt p c a
  pub empty : (q : ℕ) (y : Placed) → get s.held q ≡ Some y → y.place ≢ a
  pub unheld : IsUnheld s a
  pub page : (0 < objects_on p s.held c (page_of p a)) ⊎ IsJobPage p s c (page_of p a)

-- the page is free: no object is on it, and the job holds no slot of it
pub record IsSlicedFreePage (p : Paging) (s : Sliced) (page : ℕ) : Type 0 where
  pub within : page < p.pages
  pub empty : count_on p s.held page ≡ 0
  pub unheld : (k : JobSlot) → job_slot s.job ≡ Some k → page_of p k.address ≢ page

-- no slot is left for class c: none is usable, and no page is free
pub record NoPlace (p : Paging) (s : Sliced) (c : ℕ) : Type 0 where
  pub unusable : (a : ℕ) → ¬ IsUsable p s c a
  pub taken : (page : ℕ) → ¬ IsSlicedFreePage p s page

-- A malloc of class c may use the slot at address a: the slot is usable, or no slot of the class is usable and its page is free.
pub record IsPlaceFor (p : Paging) (s : Sliced) (c a : ℕ) : Type 0 where
  pub slot : IsSlotAt p c a
  pub choice : IsUsable p s c a ⊎ (((b : ℕ) → ¬ IsUsable p s c b) × IsSlicedFreePage p s (page_of p a))

-- The rules for the objects m without the placeholder, while a job holds slot k. No object is in that slot, and those on its page are of its class. Each
-- other class has at most one partly full page, and the slot's class at most two; if it has two, the slot is the only free one on its page.
pub record AreSoundBesideJob (p : Paging) (m : Held) (k : JobSlot) : Type 0 where
  pub address : (h : ℕ) (x : Placed) → get m h ≡ Some x → x.place ≢ k.address
  pub class : (h : ℕ) (x : Placed) → get m h ≡ Some x → page_of p x.place ≡ page_of p k.address → class_at p x ≡ k.class
  pub others : (c : ℕ) → c < classes p → c ≢ k.class → not_full_pages p m c ≤ 1
  pub two : not_full_pages p m k.class ≤ 2
  pub second : not_full_pages p m k.class ≡ 2 → (0 < objects_on p m k.class (page_of p k.address))
      × (objects_on p m k.class (page_of p k.address) + 1 ≡ slots_of p k.class)
