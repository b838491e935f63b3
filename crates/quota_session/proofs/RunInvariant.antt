-- A run over tasks is in progress (`IsGoingQuotas`) after its `heap` line, and each command keeps it so. What each call does to the task's objects, and keeps
-- of the others; and what the code does is a step of the run, with the reply to `walk`.
use Rattle.std.proofs.Common.{◌≡◌, ◌≢◌, ℕ, List, Some, None, length, replicate, sym, ◌∙◌, ap, refl, subst, ◌<◌, ◌≤◌, [], ◌∷◌, ◌++◌, cond, arith, inl, inr, zero, suc, get_or, lit<, ◌-◌, Option, option_map, Result, Ok, Err, IsTrue}
use Rattle.run_model.specs.Terms.{AccessFault, at_bound_one, Command, empty, Failed, Freed, get, Handle, Ids, insert, IsWellFormed, led, len, Objects, objects, Placed, Position, Profile, Refusal, remove, Reply, SinkState, Walk, Writes, written}
use Rattle.cf_base.proofs.MapValues.{get-map_values}
use Rattle.cf_model.specs.Steps.{number_of}
use Rattle.script_laws.proofs.CallerLemmas.{FreesOn, IsAccessFault, KeepsObjects, MallocsOn, WritesOn, malloc_refused, turn, still_going as still_ready}
use Rattle.page_model.specs.Paging.{class_for}
use Rattle.page_model.proofs.CallerLemmas.{length-written}
use Rattle.quota_heap.specs.State.{KeepsTasks, QuotaState, held_by, objects_by, empty_state, quota_of}
use Rattle.quota_heap.specs.Steps.{FreesOfTask, AddsObjectOfTask, IsTaskFault, IsTaskMallocStep, IsTaskWriteStep, WritesForTask}
use Rattle.quota_model.proofs.CallerLemmas.{objects_rewritten, others_rewritten, others_kept, others_stay, own_freed, own_objects, no_part}
use Rattle.quota_model.specs.Refusals.{task_paging}
use Rattle.quota_session.specs.TaskRun.{TaskRun, task_calls, TaskStep, task_run, task_classes, task_report, task_totals}
use Rattle.std.proofs.lemmas.Bool.{cases_eq, cases_lt}
use Rattle.std.proofs.lemmas.List.{get_or-set_same, get_or-set_other, length-set, length-append, length-replicate, set-get_or}
use Rattle.cf_base.proofs.Tests.{lt_no, lt_yes}
use Rattle.cf_session.specs.declared.outcome.Outcome.{Outcome}
use Rattle.quota_model.specs.declared.results.Need.{Need}
use Rattle.script_loop.specs.Semantics.{snapshot}
use Rattle.script_loop.specs.Applying.{Applies}
use Rattle.id_table.specs.Ties.{AreTiedTo}
use Rattle.quota_session.specs.Playing.{quota_tasks, BeginsQuotas}
use Rattle.quota_session.specs.QuotaRun.{AreTasksTied, HasSixteen, IsGoingQuotas, QuotaRun, QuotaStep, SetsQuota, StepsPresent, TaskSession, ids_of, task_needs, present_run, quota_run, with_ids, with_need, first_session}
use Rattle.quota_session.specs.Transcript.{one_need_more}
use Rattle.script_laws.specs.ObjectRun.{IsGoingObjects}
use Rattle.cf_base.proofs.Values.{map_values-empty, len-map_values}
use Rattle.id_table.proofs.CallerLemmas.{none_tied, clash}
use Rattle.cf_session.specs.Apply.{IsEnded, outcome_of}
use Rattle.cf_session.proofs.CallerLemmas.{pages_other}
use Rattle.cf_session.specs.declared.outcome.Outcome.TheVariants.{Other}
use Rattle.page_model.specs.Arrangement.{used_pages}
use Rattle.page_model.specs.Figures.{figures_of}
use Rattle.run_model.specs.Reports.{total_line}
use Rattle.script_loop.proofs.CallerLemmas.{reported}
use Rattle.run_model.proofs.CallerLemmas.{by_id_counts}
use Rattle.frag_report.specs.Classes.{totals_with}
use Rattle.quota_session.specs.Layout.{IsOfTask}
use Rattle.cf_base.specs.declared.results.AccessFault.TheVariants as access
use Rattle.script_reader.specs.declared.command.Command.TheVariants as command

-- What each call for a task does to the task's objects, and what it keeps: the heap keeps its settings, quotas and rules, and no other task's objects change.

-- the heap keeps its settings and quotas, and a call of one task leaves the objects of the others
pub record KeepsRest (task : ℕ) (old new : QuotaState) : Type 0 where
  pub rules : KeepsTasks new
  pub profile : new.profile ≡ old.profile
  pub quotas : new.quotas ≡ old.quotas
  pub others : (u : ℕ) → u ≢ task → objects_by new u ≡ objects_by old u

-- the bytes of object h of a task are those of what the task holds under h
pub bytes_by : (s : QuotaState) (task h : ℕ) (o : Option Placed) → get (held_by s task) h ≡ o → get (objects_by s task) h
    ≡ option_map (λ (x : Placed). x.bytes) o
bytes_by s task h o is = get-map_values (λ (x : Placed). x.bytes) (held_by s task) h ∙ ap (option_map (λ (x : Placed). x.bytes)) is

pub rest_same : (task : ℕ) (old new : QuotaState) → KeepsTasks old → new ≡ old → KeepsRest task old new
rest_same task old new rules same = subst (λ (s : QuotaState). KeepsRest task old s) (sym same)
    (record { rules = rules; profile = refl; quotas = refl; others = λ u ne. refl })

-- the objects after a malloc, a free and a write
module _ (old new : QuotaState) (rules : KeepsTasks old) (kept : KeepsTasks new) (task : ℕ) where
  module _ (h n : ℕ) (g : AddsObjectOfTask old task (record { number = h; length = n }) new) where
    pub given_rest : KeepsRest task old new
    given_rest = record {
      rules = kept;
      profile = ap (λ (s : QuotaState). s.profile) g.whole;
      quotas = ap (λ (s : QuotaState). s.quotas) g.whole;
      others = λ u ne. ap (λ m. objects m) (others_stay old.profile old.held task (record { number = h; length = n }) new.held rules.few_proxies g.placed u ne);
    }

    pub given_objects : objects_by new task ≡ insert (objects_by old task) h (replicate n 0)
    given_objects = own_objects old.profile old.held task (record { number = h; length = n }) new.held rules.few_proxies g.placed

    pub given_unused : get (objects_by old task) h ≡ None
    given_unused = bytes_by old task h None (g.placed).unused

  module _ (h : ℕ) (freed : Freed) (f : FreesOfTask old task h freed new) where
    pub freed_rest : KeepsRest task old new
    freed_rest = record {
      rules = kept;
      profile = ap (λ (s : QuotaState). s.profile) f.whole;
      quotas = ap (λ (s : QuotaState). s.quotas) f.whole;
      others = λ u ne. ap (λ m. objects m)
          (others_kept old.profile old.held task h (number_of freed.moved) new.held rules.page_size rules.shared f.removed u ne);
    }

    pub freed_objects : objects_by new task ≡ remove (objects_by old task) h
    freed_objects = own_freed old.profile old.held task h (number_of freed.moved) new.held rules.page_size rules.shared f.removed

  module _ (position : Position) (bytes : List ℕ) (w : WritesForTask old task position bytes new) where
    abbrev bytes_now : List ℕ
    bytes_now = written (w.object).bytes position.from bytes

    same_class : class_for (task_paging old.profile) (length bytes_now) ≡ class_for (task_paging old.profile) (length (w.object).bytes)
    same_class = ap (class_for (task_paging old.profile)) (length-written (w.object).bytes position.from bytes w.within)

    pub written_rest : KeepsRest task old new
    written_rest = record {
      rules = kept;
      profile = ap (λ (s : QuotaState). s.profile) w.whole;
      quotas = ap (λ (s : QuotaState). s.quotas) w.whole;
      others = λ u ne. ap (λ (s : QuotaState). objects_by s u) w.whole
          ∙ ap (λ m. objects m) (others_rewritten old.profile old.held task position.number w.object w.found bytes_now same_class u ne);
    }

    pub written_objects : objects_by new task ≡ insert (objects_by old task) position.number bytes_now
    written_objects = ap (λ (s : QuotaState). objects_by s task) w.whole
        ∙ objects_rewritten old.profile old.held task position.number w.object w.found bytes_now same_class

    pub written_found : get (objects_by old task) position.number ≡ Some (w.object).bytes
    written_found = bytes_by old task position.number (Some w.object) w.found

pub fault_on : (s : QuotaState) (task : ℕ) (p : Position) (count : ℕ) (e : AccessFault) → IsTaskFault s task p count e → IsAccessFault (objects_by s task) p count e
fault_on s task p count access.Unknown none = bytes_by s task p.number None none
fault_on s task p count access.Range past = (past.object.bytes, bytes_by s task p.number (Some past.object) past.found, past.past)

-- what each call does to the task's objects, and what it keeps
module _ (task : ℕ) (old new : QuotaState) (rules : KeepsTasks old) where
  refused_rest : new ≡ old → (objects_by new task ≡ objects_by old task) × KeepsRest task old new
  refused_rest still = (ap (λ (s : QuotaState). objects_by s task) still, rest_same task old new rules still)

  malloc_on : (n : ℕ) (answer : Result Handle Refusal) → IsTaskMallocStep old task n answer new → KeepsTasks new
      → MallocsOn (objects_by old task) n answer (objects_by new task) × KeepsRest task old new
  malloc_on n (Ok h) g kept =
      ((given_unused old new rules kept task h.0 n g, given_objects old new rules kept task h.0 n g), given_rest old new rules kept task h.0 n g)
  malloc_on n (Err e) (cause, still) kept = refused_rest still

  free_on : (h : ℕ) (fault : Option ⊥) (freed : Freed) → FreesOfTask old task h freed new → KeepsTasks new
      → FreesOn (objects_by old task) h fault (objects_by new task) × KeepsRest task old new
  free_on h None freed f kept = (freed_objects old new rules kept task h freed f, freed_rest old new rules kept task h freed f)
  free_on h (Some e) freed f kept = absurd e

  write_on : (p : Position) (bytes : List ℕ) (answer : Result Unit AccessFault) → IsTaskWriteStep old task p bytes answer new → KeepsTasks new
      → WritesOn (objects_by old task) p bytes answer (objects_by new task) × KeepsRest task old new
  write_on p bytes (Ok u) w kept = (
    (w.object.bytes, written_found old new rules kept task p bytes w, w.within, written_objects old new rules kept task p bytes w),
    written_rest old new rules kept task p bytes w,
  )
  write_on p bytes (Err e) (cause, still) kept =
      (let r = refused_rest still in ((fault_on old task p (length bytes) e cause, r.0), r.1))

pub task_keeps : (task : ℕ) → KeepsObjects (task_calls task) (KeepsRest task)
task_keeps task = record {
  ready = λ old new rest. rest.rules;
  same = λ s rules. rest_same task s s rules refl;
  mallocs = λ old new n answer rules m. malloc_on task old new rules n answer m.0 m.1;
  frees = λ old new h fault rules f. free_on task old new rules h fault f.0 f.1 f.2;
  writes = λ old new p bytes answer rules w. write_on task old new rules p bytes answer w.0 w.1;
  others = λ old new c reply rules step. (
      let r = refused_rest task old.heap new.heap rules (ap (λ (s : TaskRun). s.heap) step.1) in
      (ap (λ (s : TaskRun). s.ids) step.1, r.0, r.1));
  given = λ h. refl;
  refused = malloc_refused;
  freed = refl;
  kept = λ e. absurd e;
}

-- After each command the heap of tasks keeps its rules, and each task's ids name its objects (`IsGoingQuotas`).

-- `with_ids` replaces the ids of the present task, and keeps the ids of every other task
pub ids_here : (s : TaskSession) (ids : Ids) → HasSixteen s → ids_of (with_ids s ids) s.present ≡ ids
ids_here s ids has = (let many = has.ids in let lt = has.present in get_or-set_same s.ids s.present ids empty (omega arith))

pub ids_there : (s : TaskSession) (ids : Ids) (u : ℕ) → u ≢ s.present → ids_of (with_ids s ids) u ≡ ids_of s u
ids_there s ids u ne = get_or-set_other s.ids s.present u ids empty ne

with_ids_sixteen : (s : TaskSession) (ids : Ids) → HasSixteen s → HasSixteen (with_ids s ids)
with_ids_sixteen s ids has = record { ids = length-set s.ids s.present ids ∙ has.ids; needs = has.needs; few = has.few; present = has.present }

-- no task has more than 64 entries
few_more : (needs : List Need) (entry : Need) → length needs ≤ 64 → length (one_need_more needs entry) ≤ 64
few_more needs entry few = elim (cases_lt (length needs) 64) [
  | inl lt ↦ (
      let e : one_need_more needs entry ≡ needs ++ entry ∷ [] = ap (λ b. cond b (needs ++ entry ∷ []) needs) (lt_yes (length needs) 64 lt) in
      let l = ap length e ∙ length-append needs (entry ∷ []) in
      omega arith)
  | inr le ↦ (
      let e : one_need_more needs entry ≡ needs = ap (λ b. cond b (needs ++ entry ∷ []) needs) (lt_no (length needs) 64 le) in
      let l = ap length e in
      omega arith)
]

pub with_need_sixteen : (s : TaskSession) (task : ℕ) (entry : Need) → task < 16 → HasSixteen s → HasSixteen (with_need s task entry)
with_need_sixteen s task entry lt has = record {
  ids = has.ids;
  needs = length-set s.needs task _ ∙ has.needs;
  few = λ u. elim (cases_eq u task) [
    | inl is ↦ (
        let many = has.needs in
        let e : task_needs (with_need s task entry) u ≡ one_need_more (task_needs s task) entry =
        ap (task_needs (with_need s task entry)) is ∙ get_or-set_same s.needs task (one_need_more (task_needs s task) entry) [] (omega arith) in
        let few = few_more (task_needs s task) entry (has.few task) in
        let l = ap length e in
        omega arith)
    | inr ne ↦ (
        let e : task_needs (with_need s task entry) u ≡ task_needs s u = get_or-set_other s.needs task u (one_need_more (task_needs s task) entry) [] ne in
        let few = has.few u in
        let l = ap length e in
        omega arith)
  ];
  present = has.present;
}

-- the number of a task, at most 15, is below 16
pub below : (task : ℕ) → task ≤ 15 → task < 16
below task le = omega arith

module _ (old : QuotaRun) (going : IsGoingQuotas old) where
  abbrev before : TaskRun
  before = present_run old.session old.heap

  abbrev now : ℕ
  now = old.session.present

  pub present_going : IsGoingObjects (task_calls now) before
  present_going = record { ready = going.rules; tied = going.tied now going.sixteen.present }

  pub rest_kept : (c : Command) (reply : Reply) (ids : Ids) (heap : QuotaState) → TaskStep now before c reply (task_run ids heap) → KeepsRest now old.heap heap
  rest_kept c reply ids heap s = (turn (task_calls now) (task_keeps now) before (task_run ids heap) going.rules reply c s).1

  steps : (c : Command) (reply : Reply) (new : QuotaRun) → StepsPresent old c reply new → IsGoingQuotas new
  steps c reply new s = (
      let rest = rest_kept c reply s.ids new.heap s.step in
      let tied = (still_ready (task_calls now) (task_keeps now) before (task_run s.ids new.heap) c reply present_going s.step).tied in
      subst IsGoingQuotas (sym s.whole) (record {
        opened = rest.rules.opened;
        settings = going.settings ∙ ap (λ p. Some p) (sym rest.profile);
        rules = rest.rules;
        sixteen = with_ids_sixteen old.session s.ids going.sixteen;
        tied = λ task lt. elim (cases_eq task now) [
          | inl is ↦ subst (λ t. AreTiedTo (ids_of (with_ids old.session s.ids) t) (objects_by new.heap t)) (sym is)
              (subst (λ (i : Ids). AreTiedTo i (objects_by new.heap now)) (sym (ids_here old.session s.ids going.sixteen)) tied)
          | inr ne ↦ subst (λ (i : Ids). AreTiedTo i (objects_by new.heap task)) (sym (ids_there old.session s.ids task ne))
              (subst (λ (o : Objects). AreTiedTo (ids_of old.session task) o) (sym (rest.others task ne)) (going.tied task lt))
        ];
      }))

  sets : (task pages : ℕ) (reply : Reply) (new : QuotaRun) → SetsQuota old task pages reply new → IsGoingQuotas new
  sets task pages reply new s = (
      let rules = subst (λ (r : QuotaRun). KeepsTasks r.heap) s.whole s.rules in
      subst IsGoingQuotas (sym s.whole)
      (record { opened = going.opened; settings = going.settings; rules = rules; sixteen = going.sixteen; tied = going.tied }))

  pub still_going : (c : Command) (reply : Reply) (new : QuotaRun) → IsWellFormed c → QuotaStep old c reply new → IsGoingQuotas new
  still_going (command.Task task) reply new formed step = subst IsGoingQuotas (sym step.1) (record {
    opened = going.opened;
    settings = going.settings;
    rules = going.rules;
    sixteen = record { ids = (going.sixteen).ids; needs = (going.sixteen).needs; few = (going.sixteen).few; present = below task formed };
    tied = going.tied;
  })
  still_going (command.Quota task pages) reply new formed step = sets task pages reply new step
  still_going (command.Need task bytes count) reply new formed step = subst IsGoingQuotas (sym step.1) (record {
    opened = going.opened;
    settings = going.settings;
    rules = going.rules;
    sixteen = with_need_sixteen old.session task (record { bytes = bytes; count = count }) (below task formed) going.sixteen;
    tied = going.tied;
  })
  still_going (command.Admit task) reply new formed step = subst IsGoingQuotas (sym step.1) going
  still_going c reply new formed step = steps c reply new step

  -- the run is in progress after a command, also if the sink cut the reply
  pub applied_going : (new : QuotaRun) (c : Command) (w y : Option (List ℕ)) (answer : Result Outcome Failed) → IsWellFormed c
      → Applies quota_tasks (snapshot old w) c answer (snapshot new y) → IsGoingQuotas new
  applied_going new c w y (Ok outcome) formed a = still_going c a.0.reply new formed a.0.turns
  applied_going new c w y (Err e) formed a = still_going c a.turns.reply new formed a.turns.turn

-- a session over an open heap with these settings is a run in progress, if its ids name the objects
pub going_before : (p : Profile) (session view : TaskSession) (heap : QuotaState) → IsTrue heap.is_open → KeepsTasks heap → heap.profile ≡ p → session ≡ view
    → HasSixteen session → AreTasksTied view heap → IsGoingQuotas (quota_run (Some p) session heap)
going_before p session view heap opened rules profile is sixteen tied = record {
  opened = opened;
  settings = ap (λ q. Some q) (sym profile);
  rules = rules;
  sixteen = sixteen;
  tied = subst (λ (s : TaskSession). AreTasksTied s heap) (sym is) tied;
}

-- A run over tasks begins without objects and ids and with quotas of 0, and is then in progress (`IsGoingQuotas`): the heap keeps its rules, ids name its
-- objects.

-- in a list of n equal values every value is this one, and so is the default
pub all_same : {X : Type 0} (n i : ℕ) (x : X) → get_or (replicate n x) i x ≡ x
all_same zero i x = refl
all_same (suc n) zero x = refl
all_same (suc n) (suc i) x = all_same n i x

pub first_sixteen : HasSixteen first_session
first_sixteen = record {
  ids = length-replicate {A = Ids} 16 empty;
  needs = length-replicate {A = List Need} 16 [];
  few = λ task. (let l = ap length (all_same {X = List Need} 16 task []) in omega arith);
  present = lit< tt;
}

pub no_objects : (p : Profile) (task : ℕ) → objects_by (empty_state p) task ≡ empty
no_objects p task = ap objects (no_part task) ∙ map_values-empty _

pub first_tied : (p : Profile) → AreTasksTied first_session (empty_state p)
first_tied p task lt = none_tied (ids_of first_session task) (objects_by (empty_state p) task) (all_same {X = Ids} 16 task empty) (no_objects p task)

-- a run is in progress after its `heap` line
pub begins_going : (p : Profile) (s : QuotaRun) → BeginsQuotas p s → IsGoingQuotas s
begins_going p s b = record {
  opened = (b.rules).opened;
  settings = b.settings ∙ ap (λ (h : QuotaState). Some h.profile) (sym b.heap);
  rules = b.rules;
  sixteen = subst HasSixteen (sym b.session) first_sixteen;
  tied = subst (λ (h : QuotaState). AreTasksTied s.session h) (sym b.heap)
      (subst (λ (t : TaskSession). AreTasksTied t (empty_state (at_bound_one p))) (sym b.session) (first_tied (at_bound_one p)));
}

module _ (session : TaskSession) (p : Profile) (heap : QuotaState) (fresh : session ≡ first_session) (opened : heap ≡ empty_state p)
    (rules : KeepsTasks heap) where
  -- the run begins, if the heap is open with the settings of the line and the bound 1
  pub opened_begins : (line : Profile) → p ≡ at_bound_one line → BeginsQuotas line (quota_run (Some p) session heap)
  opened_begins line is = record {
    settings = ap (λ q. Some q) is;
    session = fresh;
    heap = opened ∙ ap empty_state is;
    rules = rules;
  }

  pub opened_going : IsGoingQuotas (quota_run (Some p) session heap)
  opened_going = record {
    opened = rules.opened;
    settings = ap (λ (h : QuotaState). Some h.profile) (sym opened);
    rules = rules;
    sixteen = subst HasSixteen (sym fresh) first_sixteen;
    tied = subst (λ (h : QuotaState). AreTasksTied session h) (sym opened)
        (subst (λ (t : TaskSession). AreTasksTied t (empty_state p)) (sym fresh) (first_tied p));
  }

-- For `answer` and the functions that it calls: what a command does to the session and the heap of tasks is a step of the run, and the text of `walk` is
-- its reply.

-- the outcome of a report is `Other`: it is neither good nor a refusal
report_other : (s : QuotaState) (task : ℕ) → Other ≡ outcome_of (task_report s task)
report_other s task = pages_other (λ c. figures_of (task_paging s.profile) (held_by s task) c) (task_totals s task) (task_classes s task)

-- replacing the present task's ids by the same ids changes nothing
pub same_ids : (s : TaskSession) → with_ids s (ids_of s s.present) ≡ s
same_ids s = ap (λ (all : List Ids). record s { ids = all }) (set-get_or s.ids s.present empty)

pub shown_walk : (old : QuotaRun) (c : Command) (w y : SinkState) (r : Result Unit Failed) (answer : Result Outcome Failed) → c ≡ Walk
    → Writes w (led [] (task_report old.heap old.session.present)) r y → IsEnded r Other answer
    → Applies quota_tasks (snapshot old w.written) c answer (snapshot old y.written)
shown_walk old c w y r answer is put shown =
    subst (λ (k : Command). Applies quota_tasks (snapshot old w.written) k answer (snapshot old y.written)) (sym is)
    (reported quota_tasks (λ _ _ _ _ turn. turn) old old Walk (task_report old.heap old.session.present) w y r Other answer
    (record {
      ids = ids_of old.session old.session.present;
      step = (refl, refl);
      whole = ap (λ (s : TaskSession). record old { session = s }) (sym (same_ids old.session));
    }) (report_other old.heap old.session.present) put shown)

-- a task has as many live ids as objects
pub as_many : (ids : Ids) (m : Objects) → AreTiedTo ids m → len ids ≡ len m
as_many ids m tied =
    let names : AreTiedTo ids m = tied in
    sym (len-map_values _ ids) ∙ (by_id_counts ids m names).count

-- the line of the totals that the code prints is that of the task's report
pub totals_are : (s : QuotaState) (task live used quota : ℕ) → live ≡ len (objects_by s task) → used ≡ used_pages (task_paging s.profile) (held_by s task)
    → quota ≡ quota_of s task → total_line (totals_with live used (quota - used)) ≡ total_line (task_totals s task)
totals_are s task live used quota is so_many own =
    λ i. total_line (record (task_totals s task) { live = is i; used = so_many i; free = own i - so_many i })

-- the handle of a live id of a task names an object of the task
pub free_found : (s : QuotaState) (task : ℕ) (ids : Ids) (id h : ℕ) → AreTiedTo ids (objects_by s task) → Some h ≡ get ids id
    → get (held_by s task) h ≡ None → ⊥
free_found s task ids id h tied live none =
    let x = tied.named id h (sym live) in
    clash (get (objects_by s task) h) x.0 x.1 (bytes_by s task h None none)

-- a step of the present task is a step of the run
own_step : (old new : QuotaRun) (c : Command) (reply : Reply) → IsOfTask c → StepsPresent old c reply new → QuotaStep old c reply new
own_step old new (command.Task task) reply own step = absurd own
own_step old new (command.Quota task pages) reply own step = absurd own
own_step old new (command.Need task bytes count) reply own step = absurd own
own_step old new (command.Admit task) reply own step = absurd own
own_step old new c reply own step = step

pub present_step : (old : TaskSession) (heap heap' : QuotaState) (x x' : Ids) (c : Command) (reply : Reply) → x ≡ ids_of old old.present → IsOfTask c
    → TaskStep old.present (task_run x heap) c reply (task_run x' heap') → (settings : Option Profile)
    → QuotaStep (quota_run settings old heap) c reply (quota_run settings (with_ids old x') heap')
present_step old heap heap' x x' c reply is own step settings =
    own_step (quota_run settings old heap) (quota_run settings (with_ids old x') heap') c reply own (record {
      ids = x';
      step = subst (λ (i : Ids). TaskStep old.present (task_run i heap) c reply (task_run x' heap')) is step;
      whole = refl;
    })
