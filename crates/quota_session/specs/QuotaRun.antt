-- A session over a heap that sixteen tasks share: its state, when a run over it is in progress (`IsGoingQuotas`), and for each command the reply and the state
-- after it.
use Rattle.std.specs.Prelude.{◌≡◌, ℕ, ◌<◌, ◌≤◌, IsTrue, List, [], Option, Some, codes, length, replicate, refl, slice_index_or, slice_set}
use Rattle.std.specs.Coded.{Coded, code_by, coded×, coded_ℕ, coded_list}
use Rattle.run_model.specs.Terms.{Command, empty, Ids, Profile, Reply, said}
use Rattle.id_table.specs.Ids.{ids_code}
use Rattle.quota_heap.specs.State.{KeepsTasks, QuotaState, objects_by, quota_of}
use Rattle.quota_session.specs.Tasks.{quota_text, quotas_after}
use Rattle.quota_session.specs.Transcript.{admission_text, need_text, one_need_more}
use Rattle.quota_model.specs.Admission.{IsAdmission}
use Rattle.quota_model.specs.Refusals.{quota_refusal}
use Rattle.quota_model.specs.contracts.Need as need
use Rattle.quota_model.specs.declared.results.Admission.{Admission}
use Rattle.quota_model.specs.declared.results.Need.{Need}
use Rattle.quota_model.specs.declared.results.QuotaFault.{QuotaFault}
use Rattle.script_loop.specs.Semantics.{Snapshot, snapshot}
use Rattle.script_reader.specs.declared.command.Command.TheVariants as command
use Rattle.id_table.specs.Ties.{AreTiedTo}
use Rattle.quota_session.specs.TaskRun.{TaskRun, TaskStep, task_run}

-- a session: for each task, by its number, its live ids with the handles that they name, and the entries that it declared with `need`; and the number of
-- the present task
pub record TaskSession : Type 0 where
  pub ids : List Ids
  pub needs : List (List Need)
  pub present : ℕ

-- a session that was just begun: no id is live, nothing is declared, and task 0 is present
abbrev pub first_session : TaskSession
first_session = record { ids = replicate 16 empty; needs = replicate 16 []; present = 0 }

-- the live ids of a task; none if there is no such task
abbrev pub ids_of : TaskSession → ℕ → Ids
ids_of s task = slice_index_or s.ids task empty

-- the entries that a task declared; none if there is no such task
abbrev pub task_needs : TaskSession → ℕ → List Need
task_needs s task = slice_index_or s.needs task []

-- there are sixteen tasks, the present one among them, and each declared 64 entries at most
pub record HasSixteen (s : TaskSession) : Type 0 where
  pub ids : length s.ids ≡ 16
  pub needs : length s.needs ≡ 16
  pub few : (task : ℕ) → length (task_needs s task) ≤ 64
  pub present : s.present < 16

-- the encoding of the session as nested pairs and lists, which the trait `Model` requires
abbrev pub tasks_session_code : Coded TaskSession
tasks_session_code = code_by (List Ids × (List (List Need) × ℕ)) (coded× (coded_list ids_code) (coded× (coded_list (coded_list need.the_row.coded)) coded_ℕ))
    (λ s. (s.ids, (s.needs, s.present))) (λ q. record { ids = q.0; needs = q.1.0; present = q.1.1 }) (λ _. refl)

-- the ids of each task name exactly its objects, each object by one id
abbrev pub AreTasksTied : TaskSession → QuotaState → Type 0
AreTasksTied session heap = (task : ℕ) → task < 16 → AreTiedTo (ids_of session task) (objects_by heap task)

-- a run over tasks at one moment: the settings of the `heap` line, None before it; the session; and the heap
pub record QuotaRun : Type 0 where
  pub settings : Option Profile
  pub session : TaskSession
  pub heap : QuotaState

-- the run with these settings, this session and this heap
abbrev pub quota_run : Option Profile → TaskSession → QuotaState → QuotaRun
quota_run settings session heap = record { settings = settings; session = session; heap = heap }

-- A run in progress: the heap is open with the settings of the `heap` line and keeps its tasks apart, and each task's ids name its objects.
pub record IsGoingQuotas (s : QuotaRun) : Type 0 where
  pub opened : IsTrue s.heap.is_open
  pub settings : s.settings ≡ Some s.heap.profile
  pub rules : KeepsTasks s.heap
  pub sixteen : HasSixteen s.session
  pub tied : AreTasksTied s.session s.heap

-- the part of a run that a command of the present task uses: its ids, and the heap
abbrev pub present_run : TaskSession → QuotaState → TaskRun
present_run session heap = task_run (ids_of session session.present) heap

-- the session s, but the present task's ids are `ids`
abbrev pub with_ids : TaskSession → Ids → TaskSession
with_ids s ids = record s { ids = slice_set s.ids s.present ids }

-- A command of the present task leads from the run `old` to `new`, with this reply: it does a step of that task (`TaskStep`), whose ids are then `ids`.
-- The rest of the session and the settings stay the same.
pub record StepsPresent (old : QuotaRun) (command : Command) (reply : Reply) (new : QuotaRun) : Type 0 where
  pub ids : Ids
  pub step : TaskStep old.session.present (present_run old.session old.heap) command reply (task_run ids new.heap)
  pub whole : new ≡ record old { session = with_ids old.session ids; heap = new.heap }

-- `t`: the run after `task` became the present task
abbrev pub with_present : QuotaRun → ℕ → QuotaRun
with_present s task = record s { session = record s.session { present = task } }

-- why `quota`, which sets the task's quota to `pages` pages, is refused; None if it is accepted
abbrev pub quota_fault : QuotaState → ℕ → ℕ → Option QuotaFault
quota_fault s task pages = quota_refusal s.profile s.quotas task pages (objects_by s task)

-- `quota`: the line sets the task's quota in pages, or it is refused and changes nothing
pub record SetsQuota (old : QuotaRun) (task pages : ℕ) (reply : Reply) (new : QuotaRun) : Type 0 where
  pub whole : new ≡ record old { heap = record old.heap { quotas = quotas_after (quota_fault old.heap task pages) old.heap.quotas task pages } }
  pub rules : KeepsTasks new.heap
  pub reply_is : reply ≡ said (quota_text (quota_fault old.heap task pages))

-- the session s after `need` for the task: the task has declared this entry too, if it had fewer than 64
abbrev pub with_need : TaskSession → ℕ → Need → TaskSession
with_need s task entry = record s { needs = slice_set s.needs task (one_need_more (task_needs s task) entry) }

-- `admit`: the reply shows whether the task's quota and the proxies are enough for the needs that it declared (`IsAdmission`)
pub record Admits (s : QuotaRun) (task : ℕ) (reply : Reply) : Type 0 where
  pub answer : Admission
  pub meets : IsAdmission (record { profile = s.heap.profile; quota = quota_of s.heap task }) (task_needs s.session task) answer
  pub reply_is : reply ≡ said (admission_text answer)

-- One command: the run before it, its reply, and the run after it.
abbrev pub QuotaStep : QuotaRun → Command → Reply → QuotaRun → Type 0
QuotaStep old (command.Task task) reply new = (reply ≡ said (codes "ok")) × (new ≡ with_present old task)
QuotaStep old (command.Quota task pages) reply new = SetsQuota old task pages reply new
QuotaStep old (command.Need task bytes count) reply new =
    (reply ≡ said (need_text (task_needs old.session task)))
    × (new ≡ record old { session = with_need old.session task (record { bytes = bytes; count = count }) })
QuotaStep old (command.Admit task) reply new = Admits old task reply × (new ≡ old)
QuotaStep old command reply new = StepsPresent old command reply new

-- a snapshot of a run: its state, and the bytes written to the sink so far
abbrev pub quota_moment : Option Profile → TaskSession → QuotaState → Option (List ℕ) → Snapshot QuotaRun
quota_moment settings session heap written = snapshot (quota_run settings session heap) written
