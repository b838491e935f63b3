-- A task answered from its own objects and quota, as by a heap of its own.
use Rattle.std.proofs.Common.{◌≡◌, ℕ, ◌-◌, ◌<◌, List, cond, Some, None, map, arith, sym, ◌∙◌, ap, refl, ◌++◌, nat_eq, nat_lt, not, Option, length, replicate, subst, Result, Ok, Err, ◌≢◌, true, false, [], ◌∷◌, inl, inr, codes, get_or-set_other}
use Rattle.run_model.specs.Terms.{Admit, asks, Block, Bound, classes, Command, Frag, Free, get, Handle, Held, IsPaging, IsSound, Malloc, Moving, Need, need, Objects, objects, Paging, Peek, Place, Profile, Quota, Read, Refusal, remove, Reply, Resize, said, Slice, Steps, Task, Walk, Write}
use Rattle.cf_base.proofs.Renaming.{CountAlike}
use Rattle.page_model.specs.Arrangement.{live, pages_needed, used_pages}
use Rattle.page_model.specs.Figures.{figures_of}
use Rattle.page_model.specs.Paging.{class_for}
use Rattle.page_model.proofs.CallerLemmas.{used_at_one}
use Rattle.quota_heap.specs.State.{KeepsTasks, QuotaState, held_by, objects_by, quota_of}
use Rattle.quota_session.specs.Tasks.{Tasks, own_heap, task_leaves, task_reply, TaskItem, after_item, calls, is_for_task, quotas_after, set_refusal, sets}
use Rattle.quota_model.specs.Refusals.{malloc_refusal, task_paging}
use Rattle.quota_model.proofs.CallerLemmas.{tasks_at_one, tasks_paged}
use Rattle.run_model.specs.Reports.{class_line, total_line}
use Rattle.script_laws.specs.AtOne.{classes_in_use, figures_at_one, totals_at_one, walk_at_one}
use Rattle.script_laws.specs.ById.{paging_by_id, ById}
use Rattle.script_laws.proofs.CallerLemmas.{figures_alike, figures_are, live_alike, needed_alike, needed_with_alike, said_alike, always_taken, by_id, bytes_by_id, free_by_id, malloc_by_id, malloc_text_by, refused, write_by_id}
use Rattle.frag_report.specs.Classes.{totals_with}
use Rattle.quota_session.specs.TaskRun.{class_lines, task_classes, task_report, task_totals, TaskRun, TaskStep, task_calls}
use Rattle.cf_base.proofs.Maps.{remove_missing}
use Rattle.script_laws.specs.ObjectRun.{IsGoingObjects}
use Rattle.quota_heap.specs.Steps.{IsTaskMallocStep}
use Rattle.quota_session.proofs.Isolated.{same_refusal}
use Rattle.run_model.specs.Replies.{malloc_text}
use Rattle.script_laws.specs.IdBytes.{read_shown}
use Rattle.script_laws.specs.RepliesById.{free_said, malloc_fault, malloc_leaves, malloc_said, ok_or, put_unless, write_leaves, write_said, after_by_id, bounds_after, objects_after, reply_by_id}
use Rattle.run_model.proofs.CallerLemmas.{by_id_counts}
use Rattle.quota_session.proofs.RunInvariant.{task_keeps}
use Rattle.std.proofs.lemmas.Bool.{cases_eq}
use Rattle.cf_base.proofs.Tests.{eq_yes, eq_no}
use Rattle.quota_model.specs.declared.results.QuotaFault.{QuotaFault}
use Rattle.script_laws.specs.Transcripts.{replies_from}
use Rattle.quota_session.specs.Runs.{AreTaskCommands, LeaveQuota, own_commands, replies_to}
use Rattle.cf_base.specs.declared.results.Refusal.TheVariants as refusal
use Rattle.script_reader.specs.declared.command.Command.TheVariants as command

-- For `IsOwnReply` below: the cause of a refused malloc of a task, and its `walk` report, follow from the settings, the task's quota and its objects by id,
-- without handles and addresses.

-- the cause of refusal of a task's malloc is the same for the objects m and n, if they have the same counts (`CountAlike`)
pub refusal_alike : (s : Profile) (quota bytes : ℕ) (m n : Objects) → CountAlike m n → malloc_refusal s quota n bytes ≡ malloc_refusal s quota m bytes
refusal_alike s quota bytes m n a = λ i. cond (nat_lt s.page_words (need bytes)) (Some refusal.Size)
    (cond (nat_eq (a.count i) s.proxies) (Some refusal.Proxy)
    (cond (nat_lt quota (needed_with_alike (task_paging s) m n a bytes i)) (Some refusal.Space) None))

own_needed : (s : Tasks) (task : ℕ) (o : Objects) → pages_needed (paging_by_id (own_heap s task)) o ≡ pages_needed (task_paging s.profile) o
unfolding pages_needed live class_for
own_needed s task o = refl

own_live : (s : Tasks) (task c : ℕ) (o : Objects) → live (paging_by_id (own_heap s task)) o c ≡ live (task_paging s.profile) o c
unfolding live class_for
own_live s task c o = refl

-- the last line of a report, with these numbers of live objects, of pages in use and of free pages
abbrev total_of : ℕ → ℕ → ℕ → List ℕ
total_of live used free = total_line (totals_with live used free)

-- the report of a task is the same from its objects by handle and from its objects by id, `all task`
module _ (s : QuotaState) (rules : KeepsTasks s) (task : ℕ) (all : ℕ → Objects) (a : CountAlike (objects_by s task) (all task)) where
  abbrev tasks : Tasks
  tasks = record { profile = s.profile; quotas = s.quotas; objects = all }

  abbrev o : Objects
  o = all task

  abbrev q : Paging
  q = paging_by_id (own_heap tasks task)

  abbrev p : Paging
  p = task_paging s.profile

  abbrev m : Held
  m = held_by s task

  ok : IsPaging p
  ok = tasks_paged s.profile rules.page_size

  sound : IsSound p m
  sound = (rules.shared).sound task

  figures_by_id : (c : ℕ) → c < classes p → figures_of p m c ≡ figures_at_one p o c
  figures_by_id c lt = figures_are p ok (tasks_at_one s.profile) m sound c lt ∙ sym (figures_alike p (objects m) o a c)

  used_is : used_pages p m ≡ pages_needed p o
  used_is = used_at_one p ok (tasks_at_one s.profile) m sound ∙ sym (needed_alike p (objects m) o a)

  own_figures : (c : ℕ) → figures_at_one p o c ≡ figures_at_one q o c
  unfolding live class_for
  own_figures c = refl

  lines_are : class_lines s task (task_classes s task) ≡ map (λ c. class_line (figures_at_one q o c)) (classes_in_use q o)
  lines_are = said_alike (λ c. class_line (figures_of p m c)) (λ c. class_line (figures_at_one q o c))
      (λ c. not (nat_eq (live p (objects m) c) 0)) (λ c. not (nat_eq (live q o c) 0)) 0 (classes p)
      (λ d lt. ap class_line (figures_by_id d (omega arith) ∙ own_figures d))
      (λ d. ap (λ n. not (nat_eq n 0)) (sym (live_alike p (objects m) o a d) ∙ sym (own_live tasks task d o)))

  used_own : used_pages p m ≡ pages_needed q o
  used_own = used_is ∙ sym (own_needed tasks task o)

  total_is : total_line (task_totals s task) ≡ total_line (totals_at_one q o)
  total_is = λ i. total_of (sym a.count i) (used_own i) (quota_of s task - used_own i)

  pub walk_is : task_report s task ≡ walk_at_one q o
  walk_is = λ i. lines_are i ++ said (total_is i)

-- For `ScriptShown`: the reply to a call of the present task, and its objects by id after the call, are those of a heap that has this task's objects alone and
-- its quota as its pages.

module _ (task : ℕ) (old new : TaskRun) (going : IsGoingObjects (task_calls task) old) (all : ℕ → Objects)
    (own : all task ≡ by_id (task_calls task) old) (reply : Reply) where
  abbrev t : Tasks
  t = record { profile = old.heap.profile; quotas = old.heap.quotas; objects = all }

  abbrev h : ById
  h = own_heap t task

  abbrev left_by : Objects
  left_by = by_id (task_calls task) new

  counts : CountAlike (objects_by old.heap task) (all task)
  counts = subst (λ (o : Objects). CountAlike (objects_by old.heap task) o) (sym own) (by_id_counts old.ids (objects_by old.heap task) going.tied)

  -- the object of an id, by either map
  at : (id : ℕ) (o : Option (List ℕ)) → get (by_id (task_calls task) old) id ≡ o → o ≡ get (all task) id
  at id o is = sym is ∙ ap (λ (m : Objects). get m id) (sym own)

  -- the reply to command c and the objects after it are those of a heap that only this task uses (`own_heap`)
  pub record IsOwnReply (c : Command) : Type 0 where
    pub reply_is : reply ≡ task_reply t task c
    pub left : left_by ≡ task_leaves t task c

  -- for a command that changes nothing, the objects by id after it are those of `own_heap` too
  stays : (c : Command) → new ≡ old → reply ≡ task_reply t task c → all task ≡ task_leaves t task c → IsOwnReply c
  stays c same r l = record { reply_is = r; left = ap (by_id (task_calls task)) same ∙ sym own ∙ l }

  fault : (n : ℕ) (answer : Result Handle Refusal) → IsTaskMallocStep old.heap task n answer new.heap → malloc_fault h n ≡ refused answer
  fault n answer step = same_refusal t task n ∙ refusal_alike old.heap.profile (quota_of old.heap task) n (objects_by old.heap task) (all task) counts
      ∙ go answer step
    where
      go : (answer : Result Handle Refusal) → IsTaskMallocStep old.heap task n answer new.heap
          → malloc_refusal old.heap.profile (quota_of old.heap task) (objects_by old.heap task) n ≡ refused answer
      go (Ok k) g = g.granted
      go (Err e) r = r.0

  mallocs : (id n : ℕ) → TaskStep task old (command.Malloc id n) reply new → IsOwnReply (command.Malloc id n)
  mallocs id n step = malloc_by_id (task_calls task) (task_keeps task) old new going reply id n step
      (λ v live st. stays (command.Malloc id n) st.1 (st.0 ∙ ap (λ o. said (malloc_said o h n)) (at id (Some v) live))
      (ap (λ o. malloc_leaves o h (record { number = id; length = n })) (at id (Some v) live)))
      (λ none s left. (let why = sym (fault n s.answer s.step.0) in let same = sym own in record {
        reply_is = s.reply_is ∙ ap said (malloc_text_by s.answer ∙ ap (ok_or (λ e. malloc_text (Err e))) why ∙ ap (λ o. malloc_said o h n) (at id None none));
        left = left ∙ (λ i. put_unless (why i) (same i) id (replicate n 0))
            ∙ ap (λ o. malloc_leaves o h (record { number = id; length = n })) (at id None none);
      }))

  frees : (id : ℕ) → TaskStep task old (command.Free id) reply new → IsOwnReply (command.Free id)
  frees id step = free_by_id (task_calls task) (task_keeps task) old new going reply id step
      (λ none st. stays (command.Free id) st.1 (st.0 ∙ ap (λ o. said (free_said o)) (at id None none))
      (sym (remove_missing (all task) id (sym (at id None none)))))
      (λ k v there live s left. record {
        reply_is = s.reply_is ∙ ap (λ o. said (free_said o)) (at id (Some v) live);
        left = left ∙ always_taken s.answer (by_id (task_calls task) old) id ∙ ap (λ o. remove o id) (sym own);
      })

  pub shown : (c : Command) → TaskStep task old c reply new → IsOwnReply c
  shown (command.Malloc id n) step = mallocs id n step
  shown (command.Free id) step = frees id step
  shown (command.Write id at_ bytes) step =
      let w = write_by_id (task_calls task) (task_keeps task) old new going reply id at_ bytes step in
      record {
        reply_is = w.0 ∙ ap (λ (o : Objects). said (write_said (get o id) at_ (length bytes))) (sym own);
        left = w.1 ∙ ap (λ (o : Objects). write_leaves (get o id) o (record { id = id; at = at_; bytes = bytes })) (sym own);
      }
  shown (command.Read id at_ count) step = stays (command.Read id at_ count) step.1
      (step.0 ∙ ap (λ o. said (read_shown o at_ count)) (bytes_by_id (task_calls task) old going id ∙ ap (λ (o : Objects). get o id) (sym own))) refl
  shown command.Walk step = stays command.Walk step.1 (step.0 ∙ walk_is old.heap going.ready task all counts) refl
  shown c step = stays c step.1 step.0 refl

-- For `a_task_has_a_heap_of_its_own`: while no line sets the quota of a task, the replies to it are those of a moving heap that it has alone, with its quota as
-- the number of pages.

-- no command of a task changes a bound
bounds_stay : (h : ById) (command : Command) → is_for_task command ≡ true → bounds_after h command ≡ h.bounds
bounds_stay h (Malloc id bytes) e = refl
bounds_stay h (Free id) e = refl
bounds_stay h (Write id at bytes) e = refl
bounds_stay h (Read id at count) e = refl
bounds_stay h Walk e = refl
bounds_stay h _ e = absurd (let e' : false ≡ true = e in cc)

module _ (task : ℕ) where
  -- after a call of the task, its own heap (`own_heap`) is what the command leaves of the own heap before it
  heap_after : (s : Tasks) (u : ℕ) (command : Command) → u ≡ task → is_for_task command ≡ true
      → own_heap (after_item s (calls u command)) task ≡ after_by_id (own_heap s task) command
  heap_after s u command is served =
      let yes : nat_eq task u ≡ true = eq_yes task u (sym is) in
      let a : cond (nat_eq task u) (task_leaves s u command) (s.objects task) ≡ task_leaves s u command =
      ap (λ b. cond b (task_leaves s u command) (s.objects task)) yes in
      let b : task_leaves s u command ≡ task_leaves s task command = ap (λ v. task_leaves s v command) is in
      let d : task_leaves s task command ≡ objects_after (own_heap s task) command =
      ap (λ b. cond b (objects_after (own_heap s task) command) (s.objects task)) served in
      let e : (own_heap s task).bounds ≡ bounds_after (own_heap s task) command = sym (bounds_stay (own_heap s task) command served) in
      let objects : cond (nat_eq task u) (task_leaves s u command) (s.objects task) ≡ objects_after (own_heap s task) command = a ∙ b ∙ d in
      λ i. record (own_heap s task) { bounds = e i; objects = objects i }

  -- a call of another task leaves the task's own heap unchanged
  heap_stays : (s : Tasks) (u : ℕ) (command : Command) → u ≢ task → own_heap (after_item s (calls u command)) task ≡ own_heap s task
  heap_stays s u command ne =
      let no : nat_eq task u ≡ false = eq_no task u (λ e. ne (sym e)) in
      ap (λ b. record (own_heap s task) { objects = cond b (task_leaves s u command) (s.objects task) }) no

  -- a quota line of another task leaves the task's own heap unchanged
  heap_kept : (s : Tasks) (u pages : ℕ) → u ≢ task → own_heap (after_item s (sets u pages)) task ≡ own_heap s task
  heap_kept s u pages ne = go (set_refusal s u pages)
    where
      go : (r : Option QuotaFault) → own_heap (record s { quotas = quotas_after r s.quotas u pages }) task ≡ own_heap s task
      go (Some e) = refl
      go None = ap (λ n. record (own_heap s task) { profile = record s.profile { pages = n; k = 1 } })
          (get_or-set_other s.quotas u task pages 0 (λ e. ne (sym e)))

  pub as_alone : (items : List TaskItem) (s : Tasks) → LeaveQuota task items → AreTaskCommands task items
      → replies_to task s items ≡ replies_from Moving (Some (own_heap s task)) (own_commands task items)
  as_alone [] s left served = refl
  as_alone (sets u pages ∷ rest) s left served =
      as_alone rest (after_item s (sets u pages)) left.1 served
      ∙ ap (λ h. replies_from Moving (Some h) (own_commands task rest)) (heap_kept s u pages left.0)
  as_alone (calls u command ∷ rest) s left served = elim (cases_eq u task) [
    | inl is ↦ (
        let yes : nat_eq u task ≡ true = eq_yes u task is in
        let ih = as_alone rest (after_item s (calls u command)) left served.1
        ∙ ap (λ h. replies_from Moving (Some h) (own_commands task rest)) (heap_after s u command is (served.0 is)) in
        let reply : task_reply s task command ≡ reply_by_id (own_heap s task) command =
        ap (λ b. cond b (reply_by_id (own_heap s task) command) (said (codes "none"))) (served.0 is) in
        let a : replies_to task s (calls u command ∷ rest) ≡ task_reply s task command ∷ replies_to task (after_item s (calls u command)) rest =
        ap (λ b. cond b (task_reply s task command ∷ replies_to task (after_item s (calls u command)) rest)
        (replies_to task (after_item s (calls u command)) rest)) yes in
        let b : own_commands task (calls u command ∷ rest) ≡ asks command ∷ own_commands task rest =
        ap (λ b. cond b (asks command ∷ own_commands task rest) (own_commands task rest)) yes in
        let d : task_reply s task command ∷ replies_to task (after_item s (calls u command)) rest
        ≡ reply_by_id (own_heap s task) command ∷ replies_from Moving (Some (after_by_id (own_heap s task) command)) (own_commands task rest) =
        λ i. reply i ∷ ih i in
        a ∙ d ∙ sym (ap (λ items. replies_from Moving (Some (own_heap s task)) items) b))
    | inr ne ↦ (
        let no : nat_eq u task ≡ false = eq_no u task ne in
        let ih = as_alone rest (after_item s (calls u command)) left served.1
        ∙ ap (λ h. replies_from Moving (Some h) (own_commands task rest)) (heap_stays s u command ne) in
        let a : replies_to task s (calls u command ∷ rest) ≡ replies_to task (after_item s (calls u command)) rest =
        ap (λ b. cond b (task_reply s task command ∷ replies_to task (after_item s (calls u command)) rest)
        (replies_to task (after_item s (calls u command)) rest)) no in
        let b : own_commands task (calls u command ∷ rest) ≡ own_commands task rest =
        ap (λ b. cond b (asks command ∷ own_commands task rest) (own_commands task rest)) no in
        a ∙ ih ∙ sym (ap (λ items. replies_from Moving (Some (own_heap s task)) items) b))
  ]
