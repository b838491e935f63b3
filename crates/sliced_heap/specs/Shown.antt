-- The state that public contracts show of a sliced heap, closed or open: settings, quantum, objects, job, words and order. Also the rules that an open heap
-- keeps, what its calls leave unchanged (`StaysSlicedOpen`), the invariant of a heap closed or open, and the state as nested pairs.
use Rattle.std.specs.Prelude.{◌≡◌, ℕ, ◌*◌, Bool, true, false, List, [], Option, Some, None, length, refl, replicate}
use Rattle.std.specs.FinMap as map
use Rattle.std.specs.Coded.{Coded, code_by, coded×, coded_ℕ, coded_list, coded_bool, coded_option}
use Rattle.cf_base.specs.Settings.{Profile}
use Rattle.cf_base.specs.declared.settings.Settings.{Settings}
use Rattle.cf_base.specs.declared.kind.Layout.TheVariants.{Words}
use Rattle.cf_model.specs.State.{no_profile, order_code, profile_code}
use Rattle.page_model.specs.Held.{Held, placed_code}
use Rattle.page_model.specs.Order.{Order, first_order}
use Rattle.page_model.specs.Paging.{first_bounds, paging_of}
use Rattle.slice_model.specs.State.{Plan, Job, IsPlan, Idle, Clear, Move}
use Rattle.slice_model.specs.Ordered.{IsOrderBeside}
use Rattle.slice_model.specs.Runs.{IsConsistent, HeapWithWords}
use Rattle.slice_model.specs.declared.job_slot.JobSlot.{JobSlot}
use Rattle.sliced_heap.specs.declared.open_heap.OpenHeap.{OpenHeap}
use Rattle.sliced_heap.specs.Heap.{sliced_seen}
use Rattle.sliced_heap.specs.Layout.{IsValid, paging_for, profile_at, sliced_order_in, sliced_state_of}

-- the state of a sliced heap, closed or open
pub record SlicedState : Type 0 where
  pub is_open : Bool
  -- the settings, with the bound 1
  pub profile : Profile
  -- the most words of a slice
  pub quantum : ℕ
  -- the objects by number, each with its address and its bytes
  pub held : Held
  -- the pending job, if there is one
  pub job : Job
  -- the words of the region
  pub words : List ℕ
  -- the order: the pages, slots and numbers that calls use next
  pub order : Order

-- the state of a closed heap
abbrev pub closed_sliced : SlicedState
closed_sliced = record { is_open = false; profile = no_profile; quantum = 0; held = map.empty; job = Idle; words = []; order = record { pool = []; not_full = []; spare = [] } }

-- the settings of the state s as the model has them: pages and classes, proxies, quantum
abbrev pub plan_in : SlicedState → Plan
plan_in s = record { paging = paging_of s.profile Words (first_bounds s.profile Words); proxies = s.profile.proxies; quantum = s.quantum }

-- the objects, the job and the words of the state s, as the model has them
abbrev pub working_in : SlicedState → HeapWithWords
working_in s = record { state = record { held = s.held; job = s.job }; words = s.words }

-- the state of a heap that was just opened with these settings and this quantum: no object, no job, and all words 0
abbrev pub opened_state : Settings → ℕ → SlicedState
opened_state s quantum = record {
  is_open = true;
  profile = profile_at s;
  quantum = quantum;
  held = map.empty;
  job = Idle;
  words = replicate (s.pages * s.page_words) 0;
  order = first_order (paging_for s) s.proxies;
}

-- The rules that each open heap keeps: its settings are valid; its objects, its job and its words fit each other; the region has the words of all pages;
-- and the order lists the free pages, partly full pages and spare numbers that the objects and the job leave.
pub record KeepsSlicedRules (s : SlicedState) : Type 0 where
  pub plan : IsPlan (plan_in s)
  pub consistent : IsConsistent (plan_in s) (working_in s)
  pub region : length s.words ≡ s.profile.pages * s.profile.page_words
  pub order : IsOrderBeside (plan_in s) (working_in s).state s.order

-- a heap that was in the state `old` is in the state `new`: it is open if and only if it was, and has the same settings, quantum and number
-- of words
pub record StaysSlicedOpen (old new : SlicedState) : Type 0 where
  pub is_open : new.is_open ≡ old.is_open
  pub profile : new.profile ≡ old.profile
  pub quantum : new.quantum ≡ old.quantum
  pub region : length new.words ≡ length old.words

-- the state that contracts show of a `SlicedHeap` with this open heap in it; the closed state if there is none
abbrev pub sliced_shown : Option OpenHeap → SlicedState
sliced_shown None = closed_sliced
sliced_shown (Some h) = record {
  is_open = true;
  profile = profile_at h.settings;
  quantum = h.quantum;
  held = (sliced_state_of (sliced_seen h)).held;
  job = (sliced_seen h).job;
  words = h.region;
  order = sliced_order_in (sliced_seen h);
}

-- the invariant of a heap that may be closed
abbrev pub IsValidSlicedIn : Option OpenHeap → Type 0
IsValidSlicedIn None = Unit {0}
IsValidSlicedIn (Some h) = IsValid (sliced_seen h)

-- The type of a job as nested pairs: None without a job, else the moving object's number, if there is one, and the slot. The trait `Model` needs the pairs
-- that are defined from here on.
abbrev pub JobParts : Type 0
JobParts = Option (Option ℕ × (ℕ × (ℕ × ℕ)))

-- a job as nested pairs
abbrev pub parts_of_job : Job → JobParts
parts_of_job Idle = None
parts_of_job (Clear k) = Some (None, (k.address, (k.class, k.done)))
parts_of_job (Move h k) = Some (Some h, (k.address, (k.class, k.done)))

-- the job with this slot: it moves object h, or clears the slot if there is none
abbrev pub job_by : Option ℕ → JobSlot → Job
job_by None k = Clear k
job_by (Some h) k = Move h k

-- the job that these nested pairs represent
abbrev pub job_of_parts : JobParts → Job
job_of_parts None = Idle
job_of_parts (Some q) = job_by q.0 (record { address = q.1.0; class = q.1.1.0; done = q.1.1.1 })

-- a job that is made into nested pairs and back is the same job
abbrev pub job_again : (j : Job) → job_of_parts (parts_of_job j) ≡ j
job_again Idle = refl
job_again (Clear k) = refl
job_again (Move h k) = refl

-- the conversion of a job to nested pairs and back
abbrev pub job_code : Coded Job
job_code = code_by JobParts (coded_option (coded× (coded_option coded_ℕ) (coded× coded_ℕ (coded× coded_ℕ coded_ℕ)))) parts_of_job job_of_parts job_again

-- the state as nested pairs, in the order of its fields
abbrev pub SlicedParts : Type 0
SlicedParts = Bool × (Profile × (ℕ × (Held × (Job × (List ℕ × Order)))))

-- the conversion of the state to nested pairs and back
abbrev pub sliced_code : Coded SlicedState
sliced_code = code_by SlicedParts (coded× coded_bool (coded× profile_code (coded× coded_ℕ
    (coded× (map.code coded_ℕ placed_code) (coded× job_code (coded× (coded_list coded_ℕ) order_code))))))
    (λ s. (s.is_open, (s.profile, (s.quantum, (s.held, (s.job, (s.words, s.order)))))))
    (λ q. record {
      is_open = q.0;
      profile = q.1.0;
      quantum = q.1.1.0;
      held = q.1.1.1.0;
      job = q.1.1.1.1.0;
      words = q.1.1.1.1.1.0;
      order = q.1.1.1.1.1.1;
    })
    (λ _. refl)
