-- For `HeldTasks`: the heap just opened, and what each call of the C library does to an open heap of tasks with its step count and handles (`old`, `new`) and
-- to the caller's number, structure or buffer (`before`, `after`), and the `code` that it returns. `answer` is the result of the heap's own call or the
-- admission test. If a call has a field `exact`, `new.steps` are its steps, counted from 0; every other call leaves the step count as it was.
use Rattle.std.specs.Prelude.{◌≡◌, ℕ, ◌+◌, ◌<◌, ◌≤◌, ◌⊎◌, ℤ, pos, List, None, Result, IsSome, length, sum}
use Rattle.std.specs.FinMap.{len}
use Rattle.cf_base.specs.Settings.{Profile}
use Rattle.cf_base.specs.declared.results.AccessFault.{AccessFault}
use Rattle.cf_base.specs.declared.results.Freed.{Freed}
use Rattle.cf_base.specs.declared.results.Handle.{Handle}
use Rattle.cf_base.specs.declared.results.NotLive.{NotLive}
use Rattle.cf_base.specs.declared.results.Refusal.{Refusal}
use Rattle.page_model.specs.Arrangement.{pages_needed}
use Rattle.quota_model.specs.Admission.{IsAdmission, IsEnough, Share, declared_in_all, first_large}
use Rattle.quota_model.specs.Refusals.{task_paging}
use Rattle.quota_model.specs.declared.results.Admission.{Admission}
use Rattle.quota_model.specs.declared.results.Admission.TheVariants.{Yes}
use Rattle.quota_model.specs.declared.results.Need.{Need}
use Rattle.quota_model.specs.declared.results.QuotaFault.{QuotaFault}
use Rattle.quota_heap.specs.Costs.{most_of_malloc, task_access_steps, task_free_cost, task_free_steps, task_length_steps, task_malloc_cost}
use Rattle.quota_heap.specs.State.{KeepsTasks, QuotaState, empty_state, objects_by, quota_of}
use Rattle.quota_heap.specs.Steps.{IsQuotaStep, IsTaskFreeStep, IsTaskMallocStep, IsTaskReadAnswer, IsTaskWriteStep, figures_by, length_by}
use Rattle.step_ledger.specs.Counting.{RoseAtMost, RoseBy}
use Rattle.c_base.specs.Codes.{access_code, free_code, malloc_code}
use Rattle.c_base.specs.Handles.{number_in}
use Rattle.c_base.specs.Shown.{figures_shown, found_code, found_number, freed_shown, malloc_number}
use Rattle.c_base.specs.declared.results.NphClass.{NphClass}
use Rattle.c_base.specs.declared.results.NphFreed.{NphFreed}
use Rattle.norphuen_tasks.specs.Codes.{admission_code, quota_code}
use Rattle.norphuen_tasks.specs.Handles.{AreFirstOfTasks, handles_by, raised_of}
use Rattle.norphuen_tasks.specs.TasksState.{TasksState}
use Rattle.norphuen_tasks.specs.declared.results.NphTask.{NphTask}

-- a call that names a task does `step`; if there is no such task (its number is above 15), the code is 4 (`UNKNOWN`), nothing changes, and `kept` holds:
-- that the caller's values are unchanged
abbrev pub IsCallOfTask : ℕ → TasksState → ℤ → TasksState → Type 0 → Type 0 → Type 0
IsCallOfTask task old code new kept step = ((task < 16) × step) ⊎ ((16 ≤ task) × (code ≡ pos 4) × (new ≡ old) × kept)

-- `new` is a heap that was just opened with the settings p: no task has an object, all quotas are 0, its step count is 0, and its handles are larger than
-- `last` or begin at 0 if too few are larger
pub record IsFreshTasksHeap (p : Profile) (last : ℕ) (new : TasksState) : Type 0 where
  pub whole : new.heap ≡ empty_state p
  pub rules : KeepsTasks new.heap
  pub steps : new.steps ≡ 0
  pub handles : AreFirstOfTasks p.proxies last new.handles

-- a new quota for a task; it counts no steps
pub record IsQuotaCall (old : TasksState) (task pages : ℕ) (code : ℤ) (new : TasksState) : Type 0 where
  pub answer : Result (Unit {0}) QuotaFault
  pub by_code : code ≡ quota_code answer
  pub step : IsQuotaStep old.heap task pages answer new.heap
  pub rules : KeepsTasks new.heap
  pub count : new.steps ≡ old.steps
  pub same : new.handles ≡ old.handles

-- a malloc of `bytes` bytes for a task
pub record IsTasksMallocCall (old : TasksState) (task bytes before : ℕ) (code : ℤ) (after : ℕ) (new : TasksState) : Type 0 where
  pub answer : Result Handle Refusal
  pub by_code : code ≡ malloc_code answer
  pub by_number : after ≡ malloc_number (handles_by old.handles task) before answer
  pub step : IsTaskMallocStep old.heap task bytes answer new.heap
  pub rules : KeepsTasks new.heap
  pub exact : RoseBy 0 new.steps (task_malloc_cost old.heap task bytes answer)
  pub bound : RoseAtMost 0 new.steps most_of_malloc
  pub same : new.handles ≡ old.handles

-- a free of the object of a task that `handle` names; the handle is given up if the free succeeds
pub record IsTasksFreeCall (old : TasksState) (task handle : ℕ) (before : NphFreed) (code : ℤ) (after : NphFreed) (new : TasksState) : Type 0 where
  pub answer : Result Freed NotLive
  pub by_code : code ≡ free_code answer
  pub by_freed : after ≡ freed_shown (handles_by new.handles task) before answer
  pub step : IsTaskFreeStep old.heap task (number_in (handles_by old.handles task) handle) answer new.heap
  pub rules : KeepsTasks new.heap
  pub exact : RoseBy 0 new.steps (task_free_cost old.heap task (number_in (handles_by old.handles task) handle) answer)
  pub bound : RoseAtMost 0 new.steps (task_free_steps answer)
  pub raises : new.handles ≡ raised_of old.handles task handle answer

-- a write of `bytes` into the object of a task that `handle` names, from its byte `from` on
pub record IsTasksWriteCall (old : TasksState) (task handle from : ℕ) (bytes : List ℕ) (code : ℤ) (new : TasksState) : Type 0 where
  pub answer : Result (Unit {0}) AccessFault
  pub by_code : code ≡ access_code answer
  pub step : IsTaskWriteStep old.heap task (record { number = number_in (handles_by old.handles task) handle; from = from }) bytes answer new.heap
  pub rules : KeepsTasks new.heap
  pub exact : RoseBy 0 new.steps (task_access_steps answer from (length bytes))
  pub same : new.handles ≡ old.handles

-- a read of the object of a task that `handle` names, from its byte `from` on, into the caller's buffer; the heap is unchanged
pub record IsTasksReadCall (old : TasksState) (task handle from : ℕ) (before : List ℕ) (code : ℤ) (after : List ℕ) (new : TasksState) : Type 0 where
  pub answer : Result (Unit {0}) AccessFault
  pub by_code : code ≡ access_code answer
  pub read : IsTaskReadAnswer old.heap task (record { number = number_in (handles_by old.handles task) handle; from = from }) before answer after
  pub exact : RoseBy 0 new.steps (task_access_steps answer from (length before))
  pub kept : new.heap ≡ old.heap
  pub same : new.handles ≡ old.handles

-- a call for the length of the object of a task that `handle` names; the heap is unchanged
pub record IsTasksLengthCall (old : TasksState) (task handle before : ℕ) (code : ℤ) (after : ℕ) (new : TasksState) : Type 0 where
  pub by_code : code ≡ found_code (length_by old.heap task (number_in (handles_by old.handles task) handle))
  pub by_length : after ≡ found_number (length_by old.heap task (number_in (handles_by old.handles task) handle)) before
  pub exact : RoseBy 0 new.steps (task_length_steps (length_by old.heap task (number_in (handles_by old.handles task) handle)))
  pub kept : new.heap ≡ old.heap
  pub same : new.handles ≡ old.handles

-- the figures of a task: its quota, the pages that its objects need, which are those that it uses, and its live objects
abbrev pub task_figures_shown : QuotaState → ℕ → NphTask
task_figures_shown s task = record { quota = quota_of s task; pages = pages_needed (task_paging s.profile) (objects_by s task); live = len (objects_by s task) }

-- a call for the figures of a task; it changes nothing
pub record IsTaskCall (old : TasksState) (task : ℕ) (code : ℤ) (after : NphTask) (new : TasksState) : Type 0 where
  pub by_code : code ≡ pos 0
  pub by_task : after ≡ task_figures_shown old.heap task
  pub kept : new ≡ old

-- a call for the figures of a class of a task; it changes nothing
pub record IsTasksFiguresCall (old : TasksState) (task class : ℕ) (before : NphClass) (code : ℤ) (after : NphClass) (new : TasksState) : Type 0 where
  pub by_code : code ≡ found_code (figures_by old.heap task class)
  pub by_figures : after ≡ figures_shown (figures_by old.heap task class) before
  pub kept : new ≡ old

-- a call for the pages in no quota; it changes nothing
pub record IsUnassignedCall (old : TasksState) (code : ℤ) (after : ℕ) (new : TasksState) : Type 0 where
  pub by_code : code ≡ pos 0
  pub by_pages : after + sum old.heap.quotas ≡ old.heap.profile.pages
  pub kept : new ≡ old

-- the share of a task with this quota: the settings of the heap s, and the quota
abbrev pub share_with : QuotaState → ℕ → Share
share_with s quota = record { profile = s.profile; quota = quota }

-- a call that asks whether the quota of a task is enough for these needs, at most 64: its code is that of the right result of the admission test
pub record IsAdmitted (s : QuotaState) (task : ℕ) (needs : List Need) (code : ℤ) : Type 0 where
  pub answer : Admission
  pub by_code : code ≡ admission_code answer
  pub few : length needs ≤ 64
  pub right : IsAdmission (share_with s (quota_of s task)) needs answer

-- a call that asks whether the quota of a task is enough for these needs; 17 (`ENTRIES`) if there are more than 64. It changes nothing
abbrev pub IsAdmitCall : TasksState → ℕ → List Need → ℤ → TasksState → Type 0
IsAdmitCall old task needs code new = (IsAdmitted old.heap task needs code ⊎ ((64 < length needs) × (code ≡ pos 17))) × (new ≡ old)

-- `quota` is the least quota that is enough for these needs, which are at most 64
pub record IsLeastQuota (s : QuotaState) (needs : List Need) (quota : ℕ) : Type 0 where
  pub few : length needs ≤ 64
  pub enough : IsAdmission (share_with s quota) needs Yes
  pub least : (less : ℕ) → less < quota → ¬ IsEnough (share_with s less) needs

-- the first cause why there is no least quota: 17 (`ENTRIES`), there are more than 64 needs; 1 (`SIZE`), the length of a need, even of count 0, doesn't fit a
-- page with a header; 14 (`PROXIES`), there are more objects than a task has proxies
abbrev pub IsNoQuota : QuotaState → List Need → ℤ → Type 0
IsNoQuota s needs code =
    ((64 < length needs) × (code ≡ pos 17)) ⊎ ((length needs ≤ 64) × IsSome (first_large s.profile needs) × (code ≡ pos 1))
    ⊎ ((length needs ≤ 64) × (first_large s.profile needs ≡ None) × (s.profile.proxies < declared_in_all needs) × (code ≡ pos 14))

-- a call for the least quota that is enough for these needs; it changes nothing
abbrev pub IsLeastCall : TasksState → List Need → ℤ → ℕ → ℕ → TasksState → Type 0
IsLeastCall old needs code before after new =
    (((code ≡ pos 0) × IsLeastQuota old.heap needs after) ⊎ (IsNoQuota old.heap needs code × (after ≡ before))) × (new ≡ old)

-- a call of `last_steps`: it writes the steps of the last call that counts them; the state is unchanged, steps included
pub record IsStepsCall (old : TasksState) (code : ℤ) (after : ℕ) (new : TasksState) : Type 0 where
  pub by_code : code ≡ pos 0
  pub by_steps : after ≡ old.steps
  pub kept : new ≡ old
