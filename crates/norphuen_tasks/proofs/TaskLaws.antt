-- For `laws`: what a call of one task leaves of another; what an admission says; a handle that names no object is refused.
use Rattle.std.proofs.Common.{◌≡◌, ◌≢◌, ℕ, ℤ, pos, List, [], Some, None, Result, Ok, Err, length, arith, refl, sym, ◌∙◌, ap, inl, inr}
use Rattle.std.specs.Prelude.{Option, option_map}
use Rattle.std.proofs.lemmas.List.{get_or-set_other}
use Rattle.std.specs.FinMap.{get}
use Rattle.cf_base.specs.declared.results.AccessFault.{AccessFault}
use Rattle.cf_base.specs.declared.results.AccessFault.TheVariants.{Unknown, Range}
use Rattle.cf_base.specs.declared.results.Freed.{Freed}
use Rattle.cf_base.specs.declared.results.Handle.{Handle}
use Rattle.cf_base.specs.declared.results.NotLive.{NotLive}
use Rattle.cf_base.specs.declared.results.Refusal.{Refusal}
use Rattle.cf_model.specs.Steps.{number_of}
use Rattle.page_model.specs.Bytes.{written}
use Rattle.page_model.specs.Held.{Placed}
use Rattle.page_model.specs.Paging.{class_for}
use Rattle.page_model.proofs.CallerLemmas.{length-written}
use Rattle.quota_model.specs.Admission.{IsAdmission, IsEnough, Share}
use Rattle.quota_model.specs.Refusals.{task_paging}
use Rattle.quota_model.specs.declared.results.Admission.{Admission}
use Rattle.quota_model.specs.declared.results.Admission.TheVariants.{Yes, No, Size, Proxies}
use Rattle.quota_model.specs.declared.results.Need.{Need}
use Rattle.quota_model.specs.declared.results.QuotaFault.{QuotaFault}
use Rattle.quota_model.proofs.CallerLemmas.{found_small, others_kept, others_rewritten, others_stay}
use Rattle.quota_heap.specs.State.{KeepsTasks, QuotaState, held_by, quota_of}
use Rattle.quota_heap.specs.Steps.{IsQuotaStep, IsTaskFreeStep, IsTaskMallocStep, IsTaskReadAnswer, IsTaskWriteStep}
use Rattle.c_base.specs.Codes.{access_code, free_code}
use Rattle.c_base.specs.Handles.{none, number_in}
use Rattle.c_base.specs.Shown.{found_code, found_number, freed_shown}
use Rattle.c_base.specs.declared.results.NphFreed.{NphFreed}
use Rattle.norphuen_tasks.specs.Calls.{IsAdmitCall, IsQuotaCall, IsTasksFreeCall, IsTasksLengthCall, IsTasksMallocCall, IsTasksReadCall, IsTasksWriteCall, share_with}
use Rattle.norphuen_tasks.specs.Codes.{admission_code}
use Rattle.norphuen_tasks.specs.Handles.{handles_by, raised_of}
use Rattle.norphuen_tasks.specs.LeavesAlone.{LeavesTaskAlone}
use Rattle.norphuen_tasks.specs.TasksState.{TasksState}

-- if the heap is the same, so is what it has of each task
same_alone : (u : ℕ) (old new : TasksState) → new.heap ≡ old.heap → handles_by new.handles u ≡ handles_by old.handles u → LeavesTaskAlone u old new
same_alone u old new still handles = record {
  profile = ap (λ (s : QuotaState). s.profile) still;
  objects = ap (λ (s : QuotaState). held_by s u) still;
  quota = ap (λ (s : QuotaState). quota_of s u) still;
  handles = handles;
}

pub quota_alone : (old new : TasksState) (task pages u : ℕ) (code : ℤ) → KeepsTasks old.heap → u ≢ task → IsQuotaCall old task pages code new → LeavesTaskAlone u old new
quota_alone old new task pages u code rules ne c = by_answer c.answer c.step
  where
    handles : handles_by new.handles u ≡ handles_by old.handles u
    handles = ap (λ (hs : List (List ℕ)). handles_by hs u) c.same

    by_answer : (r : Result (Unit {0}) QuotaFault) → IsQuotaStep old.heap task pages r new.heap → LeavesTaskAlone u old new
    by_answer (Ok d) step = record {
      profile = ap (λ (s : QuotaState). s.profile) step.1;
      objects = ap (λ (s : QuotaState). held_by s u) step.1;
      quota = ap (λ (s : QuotaState). quota_of s u) step.1 ∙ get_or-set_other old.heap.quotas task u pages 0 ne;
      handles = handles;
    }
    by_answer (Err e) step = same_alone u old new step.1 handles

pub malloc_alone : (old new : TasksState) (task bytes before after u : ℕ) (code : ℤ) → KeepsTasks old.heap → u ≢ task
    → IsTasksMallocCall old task bytes before code after new → LeavesTaskAlone u old new
malloc_alone old new task bytes before after u code rules ne c = by_answer c.answer c.step
  where
    handles : handles_by new.handles u ≡ handles_by old.handles u
    handles = ap (λ (hs : List (List ℕ)). handles_by hs u) c.same

    by_answer : (r : Result Handle Refusal) → IsTaskMallocStep old.heap task bytes r new.heap → LeavesTaskAlone u old new
    by_answer (Ok h) g = record {
      profile = ap (λ (s : QuotaState). s.profile) g.whole;
      objects = others_stay old.heap.profile old.heap.held task (record { number = h.0; length = bytes }) new.heap.held rules.few_proxies g.placed u ne;
      quota = ap (λ (s : QuotaState). quota_of s u) g.whole;
      handles = handles;
    }
    by_answer (Err e) step = same_alone u old new step.1 handles

pub free_alone : (old new : TasksState) (task handle u : ℕ) (before after : NphFreed) (code : ℤ) → KeepsTasks old.heap → u ≢ task
    → IsTasksFreeCall old task handle before code after new → LeavesTaskAlone u old new
free_alone old new task handle u before after code rules ne c = by_answer c.answer c.step c.raises
  where
    by_answer : (r : Result Freed NotLive) → IsTaskFreeStep old.heap task (number_in (handles_by old.handles task) handle) r new.heap
        → new.handles ≡ raised_of old.handles task handle r → LeavesTaskAlone u old new
    by_answer (Ok f) g raises = record {
      profile = ap (λ (s : QuotaState). s.profile) g.whole;
      objects = others_kept old.heap.profile old.heap.held task (number_in (handles_by old.handles task) handle) (number_of f.moved) new.heap.held
          rules.page_size rules.shared g.removed u ne;
      quota = ap (λ (s : QuotaState). quota_of s u) g.whole;
      handles = ap (λ (hs : List (List ℕ)). handles_by hs u) raises ∙ get_or-set_other old.handles task u _ [] ne;
    }
    by_answer (Err e) step raises = same_alone u old new step.1 (ap (λ (hs : List (List ℕ)). handles_by hs u) raises)

pub write_alone : (old new : TasksState) (task handle from u : ℕ) (bytes : List ℕ) (code : ℤ) → KeepsTasks old.heap → u ≢ task
    → IsTasksWriteCall old task handle from bytes code new → LeavesTaskAlone u old new
write_alone old new task handle from u bytes code rules ne c = by_answer c.answer c.step
  where
    n : ℕ
    n = number_in (handles_by old.handles task) handle

    handles : handles_by new.handles u ≡ handles_by old.handles u
    handles = ap (λ (hs : List (List ℕ)). handles_by hs u) c.same

    by_answer : (r : Result (Unit {0}) AccessFault) → IsTaskWriteStep old.heap task (record { number = n; from = from }) bytes r new.heap → LeavesTaskAlone u old new
    by_answer (Ok d) w = record {
      profile = ap (λ (s : QuotaState). s.profile) w.whole;
      objects = ap (λ (s : QuotaState). held_by s u) w.whole
          ∙ others_rewritten old.heap.profile old.heap.held task n w.object w.found (written (w.object).bytes from bytes)
          (ap (class_for (task_paging old.heap.profile)) (length-written (w.object).bytes from bytes w.within)) u ne;
      quota = ap (λ (s : QuotaState). quota_of s u) w.whole;
      handles = handles;
    }
    by_answer (Err e) step = same_alone u old new step.1 handles

yes_alone : (t : Share) (needs : List Need) (a : Admission) → admission_code a ≡ pos 0 → IsAdmission t needs a → IsEnough t needs
yes_alone t needs Yes code right = right.1
yes_alone t needs (No nth) code right = absurd (let z : pos 3 ≡ pos 0 = code in cc)
yes_alone t needs (Size entry) code right = absurd (let z : pos 1 ≡ pos 0 = code in cc)
yes_alone t needs Proxies code right = absurd (let z : pos 14 ≡ pos 0 = code in cc)

pub admitted : (old new : TasksState) (task : ℕ) (needs : List Need) → IsAdmitCall old task needs (pos 0) new
    → IsEnough (share_with old.heap (quota_of old.heap task)) needs
admitted old new task needs c = elim c.0 [
  | inl a ↦ yes_alone (share_with old.heap (quota_of old.heap task)) needs a.answer (sym a.by_code) a.right
  | inr m ↦ absurd (let z : pos 0 ≡ pos 17 = m.1 in cc)
]

-- no task has an object with the number `none`
nothing_there : (s : QuotaState) (task n : ℕ) (x : Placed) → n ≡ none → get (held_by s task) n ≡ Some x → ⊥
nothing_there s task n x is found = (let small = found_small s.held task n x found in omega (arith, is, small))

pub free_is_refused : (old new : TasksState) (task handle : ℕ) (before after : NphFreed) (code : ℤ) → IsTasksFreeCall old task handle before code after new
    → number_in (handles_by old.handles task) handle ≡ none → (code ≡ pos 4) × (after ≡ before) × (new.heap ≡ old.heap) × (new.handles ≡ old.handles)
free_is_refused old new task handle before after code c is = by_answer c.answer c.by_code c.by_freed c.step c.raises
  where
    n : ℕ
    n = number_in (handles_by old.handles task) handle

    by_answer : (r : Result Freed NotLive) → code ≡ free_code r → after ≡ freed_shown (handles_by new.handles task) before r → IsTaskFreeStep old.heap task n r new.heap
        → new.handles ≡ raised_of old.handles task handle r → (code ≡ pos 4) × (after ≡ before) × (new.heap ≡ old.heap) × (new.handles ≡ old.handles)
    by_answer (Ok f) by_code by_freed g raises = absurd (nothing_there old.heap task n g.removed.freed is g.removed.found)
    by_answer (Err e) by_code by_freed step raises = (by_code, by_freed, step.1, raises)

pub write_is_refused : (old new : TasksState) (task handle from : ℕ) (bytes : List ℕ) (code : ℤ) → IsTasksWriteCall old task handle from bytes code new
    → number_in (handles_by old.handles task) handle ≡ none → (code ≡ pos 4) × (new.heap ≡ old.heap)
write_is_refused old new task handle from bytes code c is = by_answer c.answer c.by_code c.step
  where
    n : ℕ
    n = number_in (handles_by old.handles task) handle

    by_answer : (r : Result (Unit {0}) AccessFault) → code ≡ access_code r → IsTaskWriteStep old.heap task (record { number = n; from = from }) bytes r new.heap
        → (code ≡ pos 4) × (new.heap ≡ old.heap)
    by_answer (Ok d) by_code w = absurd (nothing_there old.heap task n w.object is w.found)
    by_answer (Err Unknown) by_code step = (by_code, step.1)
    by_answer (Err Range) by_code step = absurd (nothing_there old.heap task n step.0.object is step.0.found)

pub read_is_refused : (old new : TasksState) (task handle from : ℕ) (before after : List ℕ) (code : ℤ) → IsTasksReadCall old task handle from before code after new
    → number_in (handles_by old.handles task) handle ≡ none → (code ≡ pos 4) × (after ≡ before)
read_is_refused old new task handle from before after code c is = by_answer c.answer c.by_code c.read
  where
    n : ℕ
    n = number_in (handles_by old.handles task) handle

    by_answer : (r : Result (Unit {0}) AccessFault) → code ≡ access_code r → IsTaskReadAnswer old.heap task (record { number = n; from = from }) before r after
        → (code ≡ pos 4) × (after ≡ before)
    by_answer (Ok d) by_code w = absurd (nothing_there old.heap task n w.object is w.found)
    by_answer (Err Unknown) by_code step = (by_code, step.1)
    by_answer (Err Range) by_code step = absurd (nothing_there old.heap task n step.0.object is step.0.found)

pub length_is_refused : (old new : TasksState) (task handle before after : ℕ) (code : ℤ) → IsTasksLengthCall old task handle before code after new
    → number_in (handles_by old.handles task) handle ≡ none → (code ≡ pos 4) × (after ≡ before)
length_is_refused old new task handle before after code c is = by_object (get (held_by old.heap task) n) refl
  where
    n : ℕ
    n = number_in (handles_by old.handles task) handle

    by_object : (o : Option Placed) → get (held_by old.heap task) n ≡ o → (code ≡ pos 4) × (after ≡ before)
    by_object (Some x) e = absurd (nothing_there old.heap task n x is e)
    by_object None e = (
      c.by_code ∙ ap (λ (o : Option Placed). found_code (option_map (λ (x : Placed). length x.bytes) o)) e,
      c.by_length ∙ ap (λ (o : Option Placed). found_number (option_map (λ (x : Placed). length x.bytes) o) before) e,
    )
