-- A task alone: what it is answered, and that other tasks don't change it, in a script and over calls.
use Rattle.std.proofs.Common.{◌≡◌, ℕ, ap, refl, slice_index, cond, ◌≢◌, suc, Bool, true, false, ◌<◌, ◌≤◌, List, [], ◌∷◌, Option, Some, None, length, get_or, set, arith, sym, ◌∙◌, inl, inr, subst, codes, ◌&&◌, nat_eq, nat_lt, not, sum}
use Rattle.page_model.specs.Arrangement.{live, pages_needed_with, pages_needed}
use Rattle.run_model.specs.Terms.{Command, Moving, Objects, Profile, said, asks, bad, Item, Reply, starts}
use Rattle.page_model.specs.Paging.{class_for}
use Rattle.script_laws.specs.ById.{ById, begun}
use Rattle.script_laws.specs.RepliesById.{malloc_fault, objects_after, reply_by_id}
use Rattle.quota_model.specs.Refusals.{malloc_refusal, task_paging}
use Rattle.quota_session.specs.Tasks.{Tasks, own_heap, is_for_task, task_leaves, task_reply, after_item, calls, quotas_after, set_refusal, sets, TaskItem, no_tasks}
use Rattle.std.proofs.lemmas.Bool.{and_parts, cases_eq, cases_lt, not-true, not-false}
use Rattle.std.proofs.lemmas.List.{get_or-set_same, get_or-set_other, length-set, length-replicate}
use Rattle.std.proofs.lemmas.List.Sums.{sum_by-cons}
use Rattle.cf_base.proofs.Tests.{eq_yes, eq_no, lt_no, lt_yes}
use Rattle.quota_model.proofs.CallerLemmas.{zeros}
use Rattle.quota_model.specs.declared.results.QuotaFault.{QuotaFault}
use Rattle.quota_model.specs.declared.results.QuotaFault.TheVariants.{Sum, Used}
use Rattle.quota_session.specs.Own.{is_left_out, is_own, own_items, replies_of}
use Rattle.quota_session.specs.Runs.{is_accepted, own_calls, replies_to}
use Rattle.quota_session.specs.Transcript.{MeetsTasks, TaskState, admission, admission_text, command_reply, first_state, need_text, one_need_more, present_after, state_after, task_replies}
use Rattle.script_reader.specs.declared.command.Command.TheVariants as command

-- The reply to a command of a task, and its objects after it, follow from the settings, its quota and its objects;
-- so does the cause of a refused malloc.

-- the heap that a task would have for itself, from its settings, quota and objects
abbrev heap_from : Profile → ℕ → Objects → ById
heap_from s quota objects = record (begun Moving (record s { pages = quota; k = 1 })) { objects = objects }

module _ (one other : Tasks) (task : ℕ) (profile : other.profile ≡ one.profile) (quota : slice_index other.quotas task ≡ slice_index one.quotas task)
    (objects : other.objects task ≡ one.objects task) where
  pub same_heap : own_heap other task ≡ own_heap one task
  same_heap = λ i. heap_from (profile i) (quota i) (objects i)

  pub same_reply : (command : Command) → task_reply other task command ≡ task_reply one task command
  same_reply command = ap (λ h. cond (is_for_task command) (reply_by_id h command) (said (codes "none"))) same_heap

  pub same_leaves : (command : Command) → task_leaves other task command ≡ task_leaves one task command
  same_leaves command = λ i. cond (is_for_task command) (objects_after (same_heap i) command) (objects i)

-- a heap that the task has for itself refuses a malloc for the cause that `malloc_refusal` has
pub same_refusal : (one : Tasks) (task bytes : ℕ)
    → malloc_fault (own_heap one task) bytes ≡ malloc_refusal one.profile (slice_index one.quotas task) (one.objects task) bytes
unfolding pages_needed_with live class_for
same_refusal one task bytes = refl

-- For `tasks_are_isolated` and `tasks_are_isolated_in_a_script`: without the lines of other tasks and refused quota lines, a task keeps the same quota and
-- objects, line by line, and has the same replies.

-- if each entry of a list is at most that of another list, so is the sum
sum_below : (xs ys : List ℕ) → length xs ≡ length ys → ((i : ℕ) → get_or xs i 0 ≤ get_or ys i 0) → sum xs ≤ sum ys
sum_below [] ys len le = omega arith
sum_below (x ∷ xs) [] len le = absurd (omega arith)
sum_below (x ∷ xs) (y ∷ ys) len le =
    let a = sum_by-cons (λ (n : ℕ). n) x xs in
    let b = sum_by-cons (λ (n : ℕ). n) y ys in
    let here : x ≤ y = le 0 in
    let rest = sum_below xs ys (omega arith) (λ i. le (suc i)) in
    omega arith

-- `own` and `all` have equal settings, and for the task equal quotas and objects; in `own` the other tasks have no quota
pub record IsOwn (task : ℕ) (all own : Tasks) : Type 0 where
  pub profile : own.profile ≡ all.profile
  pub objects : own.objects task ≡ all.objects task
  pub quota : get_or own.quotas task 0 ≡ get_or all.quotas task 0
  pub others : (u : ℕ) → u ≢ task → get_or own.quotas u 0 ≡ 0
  pub many : length all.quotas ≡ 16
  pub as_many : length own.quotas ≡ 16

module _ (task : ℕ) (lt : task < 16) where
  -- a call of the task, done in both, keeps `IsOwn`
  pub own_call : (all own : Tasks) (u : ℕ) (command : Command) → u ≡ task → IsOwn task all own
      → IsOwn task (after_item all (calls u command)) (after_item own (calls u command))
  own_call all own u command is o =
      let yes : nat_eq task u ≡ true = eq_yes task u (sym is) in
      let heap = same_leaves all own u o.profile (subst (λ x. get_or own.quotas x 0 ≡ get_or all.quotas x 0) (sym is) o.quota)
      (subst (λ x. own.objects x ≡ all.objects x) (sym is) o.objects) command in
      record {
        profile = o.profile;
        objects = (
            let a : cond (nat_eq task u) (task_leaves own u command) (own.objects task) ≡ task_leaves own u command =
            ap (λ b. cond b (task_leaves own u command) (own.objects task)) yes in
            let b : cond (nat_eq task u) (task_leaves all u command) (all.objects task) ≡ task_leaves all u command =
            ap (λ b. cond b (task_leaves all u command) (all.objects task)) yes in
            a ∙ heap ∙ sym b);
        quota = o.quota;
        others = o.others;
        many = o.many;
        as_many = o.as_many;
      }

  -- a call of another task, done in `all` only, keeps `IsOwn`
  pub others_call : (all own : Tasks) (u : ℕ) (command : Command) → u ≢ task → IsOwn task all own → IsOwn task (after_item all (calls u command)) own
  others_call all own u command ne o =
      let no : nat_eq task u ≡ false = eq_no task u (λ e. ne (sym e)) in
      record {
        profile = o.profile;
        objects = o.objects ∙ sym (ap (λ b. cond b (task_leaves all u command) (all.objects task)) no);
        quota = o.quota;
        others = o.others;
        many = o.many;
        as_many = o.as_many;
      }

  -- a quota line that is left out, as it is refused or another task's, keeps `IsOwn`
  pub left_set : (all own : Tasks) (u pages : ℕ) (r : Option QuotaFault) → ((nat_eq u task && is_accepted r) ≡ false) → IsOwn task all own
      → IsOwn task (record all { quotas = quotas_after r all.quotas u pages }) own
  left_set all own u pages (Some e) out o = o
  left_set all own u pages None out o = elim (cases_eq u task) [
    | inl is ↦ absurd (let yes = eq_yes u task is in let e : (nat_eq u task && true) ≡ true = ap (λ b. b && true) yes in let e' : true ≡ false =
        sym e ∙ out in cc)
    | inr ne ↦ record {
      profile = o.profile;
      objects = o.objects;
      quota = o.quota ∙ sym (get_or-set_other all.quotas u task pages 0 (λ e. ne (sym e)));
      others = o.others;
      many = length-set all.quotas u pages ∙ o.many;
      as_many = o.as_many;
    }
  ]

  set_own : (all own : Tasks) (pages : ℕ) → IsOwn task all own
      → IsOwn task (record all { quotas = set all.quotas task pages }) (record own { quotas = set own.quotas task pages })
  set_own all own pages o = record {
    profile = o.profile;
    objects = o.objects;
    quota = (
        let m = o.many in
        let n = o.as_many in
        get_or-set_same own.quotas task pages 0 (omega arith) ∙ sym (get_or-set_same all.quotas task pages 0 (omega arith)));
    others = λ u ne. get_or-set_other own.quotas task u pages 0 ne ∙ o.others u ne;
    many = length-set all.quotas task pages ∙ o.many;
    as_many = length-set own.quotas task pages ∙ o.as_many;
  }

  sum_own : (all own : Tasks) (pages : ℕ) → IsOwn task all own → sum (set own.quotas task pages) ≤ sum (set all.quotas task pages)
  sum_own all own pages o =
      let m = o.many in
      let n = o.as_many in
      sum_below (set own.quotas task pages) (set all.quotas task pages)
      (length-set own.quotas task pages ∙ o.as_many ∙ sym (length-set all.quotas task pages ∙ o.many))
      (λ i. elim (cases_eq i task) [
        | inl is ↦ (
            let a : get_or (set own.quotas task pages) i 0 ≡ pages = rw is (get_or-set_same own.quotas task pages 0 (omega arith)) in
            let b : get_or (set all.quotas task pages) i 0 ≡ pages = rw is (get_or-set_same all.quotas task pages 0 (omega arith)) in
            omega arith)
        | inr ne ↦ (
            let a : get_or (set own.quotas task pages) i 0 ≡ 0 = get_or-set_other own.quotas task i pages 0 ne ∙ o.others i ne in
            omega arith)
      ])

  -- if a quota line is accepted, neither of the causes of refusal, a and b, holds
  both_pass : (a b : Bool) → is_accepted (cond a (Some Sum) (cond b (Some Used) None)) ≡ true → (a ≡ false) × (b ≡ false)
  both_pass true b e = absurd (let e' : false ≡ true = e in cc)
  both_pass false true e = absurd (let e' : false ≡ true = e in cc)
  both_pass false false e = (refl, refl)

  -- if a quota line of the task is accepted in `all`, it is accepted in `own`, where no other task has a quota
  accepted_own : (all own : Tasks) (pages : ℕ) → IsOwn task all own → is_accepted (set_refusal all task pages) ≡ true → set_refusal own task pages ≡ None
  accepted_own all own pages o e =
      let both = both_pass (nat_lt all.profile.pages (sum (set all.quotas task pages)))
      (nat_lt pages (pages_needed (task_paging all.profile) (all.objects task))) e in
      let le : sum (set all.quotas task pages) ≤ all.profile.pages = elim (cases_lt all.profile.pages (sum (set all.quotas task pages))) [
        | inl more ↦ absurd (let yes = lt_yes all.profile.pages (sum (set all.quotas task pages)) more in let e' : true ≡ false = sym yes ∙ both.0 in cc)
        | inr fine ↦ fine
      ] in
      let less = sum_own all own pages o in
      let pages_are : own.profile.pages ≡ all.profile.pages = ap (λ (s : Profile). s.pages) o.profile in
      let x : nat_lt own.profile.pages (sum (set own.quotas task pages)) ≡ false = lt_no _ _ (omega arith) in
      let y : nat_lt pages (pages_needed (task_paging own.profile) (own.objects task)) ≡ false =
      (λ i. nat_lt pages (pages_needed (task_paging (o.profile i)) (o.objects i))) ∙ both.1 in
      λ i. cond (x i) (Some Sum) (cond (y i) (Some Used) None)

  accepted_is : (r : Option QuotaFault) → is_accepted r ≡ true → r ≡ None
  accepted_is None e = refl
  accepted_is (Some f) e = absurd (let e' : false ≡ true = e in cc)

  -- a quota line of the task that is accepted, done in both, keeps `IsOwn`
  pub kept_set : (all own : Tasks) (u pages : ℕ) → (nat_eq u task && is_accepted (set_refusal all u pages)) ≡ true → IsOwn task all own
      → IsOwn task (after_item all (sets u pages)) (after_item own (sets u pages))
  kept_set all own u pages is o = elim (cases_eq u task) [
    | inr ne ↦ absurd (let e : true ≡ false = sym (and_parts (nat_eq u task) _ is).0 ∙ eq_no u task ne in cc)
    | inl same ↦ (
        let accepted : is_accepted (set_refusal all task pages) ≡ true =
        subst (λ v. is_accepted (set_refusal all v pages) ≡ true) same (and_parts (nat_eq u task) _ is).1 in
        let a : set_refusal all task pages ≡ None = accepted_is (set_refusal all task pages) accepted in
        let b : set_refusal own task pages ≡ None = accepted_own all own pages o accepted in
        let done : IsOwn task (record all { quotas = quotas_after (set_refusal all task pages) all.quotas task pages })
        (record own { quotas = quotas_after (set_refusal own task pages) own.quotas task pages }) =
        subst (λ x. IsOwn task (record all { quotas = quotas_after x all.quotas task pages })
        (record own { quotas = quotas_after (set_refusal own task pages) own.quotas task pages })) (sym a)
        (subst (λ x. IsOwn task (record all { quotas = set all.quotas task pages }) (record own { quotas = quotas_after x own.quotas task pages }))
        (sym b) (set_own all own pages o)) in
        subst (λ v. IsOwn task (record all { quotas = quotas_after (set_refusal all v pages) all.quotas v pages })
        (record own { quotas = quotas_after (set_refusal own v pages) own.quotas v pages })) (sym same) done)
  ]

  -- the states agree for the task (`IsOwn`), also in the entries that it declared; and if it is the present task in `all`, so it is in `own`
  record AreOwn (all own : TaskState) : Type 0 where
    tasks : IsOwn task all.tasks own.tasks
    present : all.present ≡ task → own.present ≡ task
    needs : own.needs task ≡ all.needs task

  first_own : (p : Profile) → AreOwn (first_state p) (first_state p)
  first_own p = record {
    tasks = record {
      profile = refl;
      objects = refl;
      quota = refl;
      others = λ u ne. zeros 16 u;
      many = length-replicate {A = ℕ} 16 0;
      as_many = length-replicate {A = ℕ} 16 0;
    };
    present = λ e. e;
    needs = refl;
  }

  equal : (a b : ℕ) → not (nat_eq a b) ≡ false → a ≡ b
  equal a b e = elim (cases_eq a b) [
    | inl is ↦ is
    | inr ne ↦ absurd (let e' : true ≡ false = sym (ap not (eq_no a b ne)) ∙ e in cc)
  ]

  unequal : (a b : ℕ) → not (nat_eq a b) ≡ true → a ≢ b
  unequal a b e is = (let e' : false ≡ true = sym (ap not (eq_yes a b is)) ∙ e in absurd cc)

  -- a command that is left out keeps `AreOwn`, and isn't one of the task's own
  record Skips (all own : TaskState) (c : Command) : Type 0 where
    state : AreOwn (state_after all c) own
    foreign : is_own task all.present c ≡ false

  skips : (all own : TaskState) → AreOwn all own → (c : Command) → is_left_out task all c ≡ true → Skips all own c
  skips all own o (command.Task u) out = record {
    state = record { tasks = o.tasks; present = λ e. absurd (unequal u task out e); needs = o.needs };
    foreign = refl;
  }
  skips all own o (command.Quota u pages) out = record {
    state = record {
      tasks = left_set all.tasks own.tasks u pages (set_refusal all.tasks u pages)
          (not-true (nat_eq u task && is_accepted (set_refusal all.tasks u pages)) out) o.tasks;
      present = o.present;
      needs = o.needs;
    };
    foreign = refl;
  }
  skips all own o (command.Need u bytes count) out =
      let no : nat_eq task u ≡ false = eq_no task u (λ e. unequal u task out (sym e)) in
      record {
        state = record {
          tasks = o.tasks;
          present = o.present;
          needs = o.needs ∙ sym (ap (λ b. cond b (one_need_more (all.needs task) (record { bytes = bytes; count = count })) (all.needs task)) no);
        };
        foreign = not-true (nat_eq u task) out;
      }
  skips all own o (command.Admit u) out = record {
    state = record { tasks = o.tasks; present = o.present; needs = o.needs };
    foreign = not-true (nat_eq u task) out;
  }
  skips all own o c out = record {
    state = record {
      tasks = others_call all.tasks own.tasks all.present c (unequal all.present task out) o.tasks;
      present = o.present;
      needs = o.needs;
    };
    foreign = not-true (nat_eq all.present task) out;
  }

  -- a command that isn't left out, done in both, keeps `AreOwn`; if it is the task's own, it has the same reply in both
  record Keeps (all own : TaskState) (c : Command) : Type 0 where
    state : AreOwn (state_after all c) (state_after own c)
    own_too : is_own task own.present c ≡ is_own task all.present c
    reply : is_own task all.present c ≡ true → command_reply own c ≡ command_reply all c

  keeps : (all own : TaskState) → AreOwn all own → (c : Command) → is_left_out task all c ≡ false → Keeps all own c
  keeps all own o (command.Task u) stays = record {
    state = record { tasks = o.tasks; present = λ e. e; needs = o.needs };
    own_too = refl;
    reply = λ e. absurd (let e' : false ≡ true = e in cc);
  }
  keeps all own o (command.Quota u pages) stays = record {
    state = record {
      tasks = kept_set all.tasks own.tasks u pages (not-false (nat_eq u task && is_accepted (set_refusal all.tasks u pages)) stays) o.tasks;
      present = o.present;
      needs = o.needs;
    };
    own_too = refl;
    reply = λ e. absurd (let e' : false ≡ true = e in cc);
  }
  keeps all own o (command.Need u bytes count) stays = record {
    state = record {
      tasks = o.tasks;
      present = o.present;
      needs = ap (λ l. cond (nat_eq task u) (one_need_more l (record { bytes = bytes; count = count })) l) o.needs;
    };
    own_too = refl;
    reply = λ e. ap (λ l. said (need_text l)) (subst (λ v. own.needs v ≡ all.needs v) (sym (equal u task stays)) o.needs);
  }
  keeps all own o (command.Admit u) stays = record {
    state = record { tasks = o.tasks; present = o.present; needs = o.needs };
    own_too = refl;
    reply = λ e. subst (λ v. command_reply own (command.Admit v) ≡ command_reply all (command.Admit v)) (sym (equal u task stays))
        (λ i. said (admission_text (admission (record { profile = o.tasks.profile i; quota = o.tasks.quota i }) (o.needs i))));
  }
  keeps all own o c stays =
      let is : all.present ≡ task = equal all.present task stays in
      let there : own.present ≡ all.present = o.present is ∙ sym is in
      record {
        state = record {
          tasks = subst (λ v. IsOwn task (after_item all.tasks (calls all.present c)) (after_item own.tasks (calls v c))) (sym there)
              (own_call all.tasks own.tasks all.present c is o.tasks);
          present = o.present;
          needs = o.needs;
        };
        own_too = ap (λ v. nat_eq v task) there;
        reply = λ e. ap (λ v. task_reply own.tasks v c) (o.present is)
            ∙ same_reply all.tasks own.tasks task o.tasks.profile o.tasks.quota o.tasks.objects c
            ∙ sym (ap (λ v. task_reply all.tasks v c) is);
      }

  -- the replies to the task in its own items are those in all items
  abbrev IsSame : ℕ → ℕ → Option TaskState → Option TaskState → List Item → Type 0
  IsSame present here all own items =
      replies_of task here (own_items task all items) (task_replies own (own_items task all items)) ≡ replies_of task present items (task_replies all items)

  by_own : (b : Bool) (one other : Reply) → (b ≡ true → one ≡ other) → {xs ys : List Reply} → xs ≡ ys → cond b (one ∷ xs) xs ≡ cond b (other ∷ ys) ys
  by_own true one other reply same = λ i. reply refl i ∷ same i
  by_own false one other reply same = same

  -- if the replies to the task are the same after command c, they are the same from c on; `left` has the items after c that are not left out
  module _ (all own : TaskState) (o : AreOwn all own) (c : Command) (left rest : List Item) (replies : List Reply) where
    with_command : (b : Bool) → is_left_out task all c ≡ b
        → (AreOwn (state_after all c) own
        → replies_of task own.present left (task_replies (Some own) left) ≡ replies_of task (present_after all.present c) rest replies)
        → (AreOwn (state_after all c) (state_after own c) → replies_of task (present_after own.present c) left (task_replies (Some (state_after own c)) left)
        ≡ replies_of task (present_after all.present c) rest replies)
        → replies_of task own.present (cond b left (asks c ∷ left)) (task_replies (Some own) (cond b left (asks c ∷ left)))
        ≡ replies_of task all.present (asks c ∷ rest) (command_reply all c ∷ replies)
    with_command true is out kept =
        let s = skips all own o c is in
        out s.state
        ∙ sym (ap (λ b. cond b (command_reply all c ∷ replies_of task (present_after all.present c) rest replies)
        (replies_of task (present_after all.present c) rest replies)) s.foreign)
    with_command false is out kept =
        let k = keeps all own o c is in
        ap (λ b. cond b (command_reply own c ∷ replies_of task (present_after own.present c) left (task_replies (Some (state_after own c)) left))
        (replies_of task (present_after own.present c) left (task_replies (Some (state_after own c)) left))) k.own_too
        ∙ by_own (is_own task all.present c) _ _ k.reply (kept k.state)

  isolated : (items : List Item) (all own : TaskState) → AreOwn all own → IsSame all.present own.present (Some all) (Some own) items
  isolated [] all own o = refl
  isolated (starts p ∷ rest) all own o = isolated rest (first_state p) (first_state p) (first_own p)
  isolated (bad n ∷ rest) all own o = isolated rest all own o
  isolated (asks c ∷ rest) all own o =
      with_command all own o c (own_items task (Some (state_after all c)) rest) rest (task_replies (Some (state_after all c)) rest)
      (is_left_out task all c) refl (λ state. isolated rest (state_after all c) own state)
      (λ state. isolated rest (state_after all c) (state_after own c) state)

  -- before the `heap` line no command has a reply
  isolated_first : (items : List Item) (present : ℕ) → IsSame present present None None items
  isolated_first [] present = refl
  isolated_first (starts p ∷ rest) present = isolated rest (first_state p) (first_state p) (first_own p)
  isolated_first (bad n ∷ rest) present = isolated_first rest present
  isolated_first (asks c ∷ rest) present =
      let same = isolated_first rest (present_after present c) in
      λ i. cond (is_own task present c) ([] ∷ same i) (same i)

  pub isolated_in : (items : List Item) (replies shown : List Reply) → MeetsTasks items replies → MeetsTasks (own_items task None items) shown
      → replies_of task 0 (own_items task None items) shown ≡ replies_of task 0 items replies
  isolated_in items replies shown meets met =
      ap (replies_of task 0 (own_items task None items)) met ∙ isolated_first items 0 ∙ sym (ap (replies_of task 0 items) meets)

  -- if two scripts have the same lines that are not left out, the replies to the task are the same
  pub isolated_alike : (items others : List Item) (replies shown : List Reply) → own_items task None others ≡ own_items task None items
      → MeetsTasks items replies → MeetsTasks others shown → replies_of task 0 others shown ≡ replies_of task 0 items replies
  isolated_alike items others replies shown same meets met =
      sym (isolated_in others shown _ met refl) ∙ ap (λ (l : List Item). replies_of task 0 l (task_replies None l)) same
      ∙ isolated_in items replies _ meets refl

-- For `tasks_are_isolated`: over a list of calls and quota lines, the replies to a task are the same without the others' calls and quota lines and without
-- refused quota lines.

module _ (task : ℕ) (lt : task < 16) where
  calls_alike : (items : List TaskItem) (all own : Tasks) → IsOwn task all own → replies_to task own (own_calls task all items) ≡ replies_to task all items
  calls_alike [] all own o = refl
  calls_alike (calls u command ∷ rest) all own o = elim (cases_eq u task) [
    | inl is ↦ (
        let yes : nat_eq u task ≡ true = eq_yes u task is in
        let reply = same_reply all own task o.profile o.quota o.objects command in
        let ih = calls_alike rest (after_item all (calls u command)) (after_item own (calls u command)) (own_call task lt all own u command is o) in
        rw yes (rw yes (λ i. reply i ∷ ih i)))
    | inr ne ↦ (
        let no : nat_eq u task ≡ false = eq_no u task ne in
        rw no (calls_alike rest (after_item all (calls u command)) own (others_call task lt all own u command ne o)))
  ]
  calls_alike (sets u pages ∷ rest) all own o = go (nat_eq u task && is_accepted (set_refusal all u pages)) refl
      (λ p. calls_alike rest (after_item all (sets u pages)) own p)
      (λ p. calls_alike rest (after_item all (sets u pages)) (after_item own (sets u pages)) p)
    where
      go : (b : Bool) → (nat_eq u task && is_accepted (set_refusal all u pages)) ≡ b
          → (IsOwn task (after_item all (sets u pages)) own
          → replies_to task own (own_calls task (after_item all (sets u pages)) rest) ≡ replies_to task (after_item all (sets u pages)) rest)
          → (IsOwn task (after_item all (sets u pages)) (after_item own (sets u pages))
          → replies_to task (after_item own (sets u pages)) (own_calls task (after_item all (sets u pages)) rest)
          ≡ replies_to task (after_item all (sets u pages)) rest)
          → replies_to task own (cond b (sets u pages ∷ own_calls task (after_item all (sets u pages)) rest)
          (own_calls task (after_item all (sets u pages)) rest))
          ≡ replies_to task (after_item all (sets u pages)) rest
      go false is out kept = out (left_set task lt all own u pages (set_refusal all u pages) is o)
      go true is out kept = kept (kept_set task lt all own u pages is o)

  pub calls_isolated : (s : Profile) (items : List TaskItem)
      → replies_to task (no_tasks s) (own_calls task (no_tasks s) items) ≡ replies_to task (no_tasks s) items
  calls_isolated s items = calls_alike items (no_tasks s) (no_tasks s) (record {
    profile = refl;
    objects = refl;
    quota = refl;
    others = λ u ne. zeros 16 u;
    many = length-replicate {A = ℕ} 16 0;
    as_many = length-replicate {A = ℕ} 16 0;
  })
