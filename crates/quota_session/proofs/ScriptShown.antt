-- The replies of a run over tasks are those of the transcript, a function of the lines alone; so two runs that are alike for a task give it the same replies.
use Rattle.std.proofs.Common.{◌≡◌, ℕ, ◌<◌, ◌≤◌, List, [], ◌∷◌, Some, None, true, false, cond, get_or, length, take, arith, sym, ◌∙◌, ap, refl, subst, inl, inr, get_or-set_same, get_or-set_other}
use Rattle.std.specs.Prelude.{⊤, Option, nat_eq, nat_le, nat_lt, option_map, slice_set, sum}
use Rattle.std.proofs.lemmas.Bool.{cases_eq}
use Rattle.run_model.specs.Terms.{asks, at_bound_one, bad, Command, empty, Ids, Item, Profile, Reply, said, starts}
use Rattle.cf_base.proofs.Renaming.{CountAlike}
use Rattle.cf_base.proofs.Tests.{eq_no, eq_yes}
use Rattle.quota_heap.specs.State.{empty_state, objects_by}
use Rattle.quota_session.proofs.Admitted.{admission_is}
use Rattle.quota_session.specs.Tasks.{Tasks, after_item, calls, is_for_task, no_tasks, quota_text, quotas_after, set_refusal, sets, task_leaves, task_reply}
use Rattle.quota_session.specs.Transcript.{MeetsTasks, TaskState, admission_text, command_reply, first_state, needs_after, one_need_more, reply_to_item, state_after, state_after_item}
use Rattle.quota_session.specs.Transcript.{task_replies, after_if, item_of, present_after}
use Rattle.quota_model.specs.Refusals.{task_paging}
use Rattle.quota_model.specs.declared.results.Need.{Need}
use Rattle.quota_model.specs.declared.results.QuotaFault.{QuotaFault}
use Rattle.quota_model.specs.declared.results.QuotaFault.TheVariants.{Sum, Used}
use Rattle.script_laws.specs.ValidItems.{AreValidItems, IsValidCommand, IsValidItem}
use Rattle.script_laws.proofs.CallerLemmas.{all_items_valid, needed_alike}
use Rattle.run_model.specs.Plays.{IsAt, PlayStep}
use Rattle.script_loop.specs.ScriptOutcome.{MOST_BYTES, items_within}
use Rattle.script_loop.specs.Semantics.{RunBy}
use Rattle.id_table.specs.Ties.{AreTiedTo}
use Rattle.script_reader.specs.declared.command.Command.TheVariants as command
use Rattle.run_model.specs.ById.{objects_by_id}
use Rattle.run_model.proofs.CallerLemmas.{by_id_counts, none_by_id}
use Rattle.quota_session.specs.Alone.{AreAlikeFor, tasks_of}
use Rattle.quota_session.specs.Playing.{BeginsTasks, BeginsQuotas, RunsQuotas, quota_tasks}
use Rattle.quota_session.specs.QuotaRun.{IsGoingQuotas, QuotaRun, QuotaStep, SetsQuota, StepsPresent, TaskSession, ids_of, present_run, task_needs}
use Rattle.quota_session.specs.QuotaRun.{quota_fault, with_ids}
use Rattle.quota_session.specs.TaskRun.{TaskRun, task_run}
use Rattle.quota_session.proofs.RunInvariant.{below, ids_here, ids_there, rest_kept, present_going, still_going, all_same, begins_going}
use Rattle.quota_session.proofs.OwnTask.{IsOwnReply, shown}

-- the state of a run as the transcript has it: the present task, the tasks by id, and their needs
abbrev state_of : QuotaRun → TaskState
state_of s = record { present = s.session.present; tasks = tasks_of s; needs = task_needs s.session }

module _ (old : QuotaRun) (going : IsGoingQuotas old) where
  abbrev now : ℕ
  now = old.session.present

  abbrev t : Tasks
  t = tasks_of old

  -- a call of the present task
  module _ (c : Command) (reply : Reply) (new : QuotaRun) (s : StepsPresent old c reply new) where
    abbrev then_ : TaskRun
    then_ = task_run s.ids new.heap

    said_so : IsOwnReply now (present_run old.session old.heap) then_ (present_going old going) t.objects refl reply c
    said_so = shown now (present_run old.session old.heap) then_ (present_going old going) t.objects refl reply c s.step

    objects_at : (u : ℕ) → objects_by_id (ids_of (with_ids old.session s.ids) u) (objects_by new.heap u)
        ≡ cond (nat_eq u now) (task_leaves t now c) (t.objects u)
    objects_at u = elim (cases_eq u now) [
      | inl is ↦
          ap (λ v. objects_by_id (ids_of (with_ids old.session s.ids) v) (objects_by new.heap v)) is
          ∙ ap (λ (i : Ids). objects_by_id i (objects_by new.heap now)) (ids_here old.session s.ids going.sixteen)
          ∙ said_so.left ∙ sym (ap (λ b. cond b (task_leaves t now c) (t.objects u)) (eq_yes u now is))
      | inr ne ↦
          (λ i. objects_by_id (ids_there old.session s.ids u ne i) ((rest_kept old going c reply s.ids new.heap s.step).others u ne i))
          ∙ sym (ap (λ b. cond b (task_leaves t now c) (t.objects u)) (eq_no u now ne))
    ]

    pub call_after : tasks_of new ≡ after_item t (calls now c)
    call_after = ap tasks_of s.whole ∙ (λ i. record {
      profile = (rest_kept old going c reply s.ids new.heap s.step).profile i;
      quotas = (rest_kept old going c reply s.ids new.heap s.step).quotas i;
      objects = λ u. objects_at u i;
    })

    pub call_reply : reply ≡ task_reply t now c
    call_reply = said_so.reply_is

    pub call_present : new.session.present ≡ now
    call_present = ap (λ (r : QuotaRun). r.session.present) s.whole

  counts : (task : ℕ) → task < 16 → CountAlike (objects_by old.heap task) (t.objects task)
  counts task lt =
      let tied = going.tied task lt in
      let names : AreTiedTo (ids_of old.session task) (objects_by old.heap task) = tied in
      by_id_counts (ids_of old.session task) (objects_by old.heap task) names

  -- whether a quota line is refused is the same by the objects by id and by handle
  fault_same : (task pages : ℕ) → task < 16 → quota_fault old.heap task pages ≡ set_refusal t task pages
  fault_same task pages lt = λ i. cond (nat_lt old.heap.profile.pages (sum (slice_set old.heap.quotas task pages))) (Some Sum)
      (cond (nat_lt pages (sym (needed_alike (task_paging old.heap.profile) (objects_by old.heap task) (t.objects task) (counts task lt)) i)) (Some Used) None)

  quota_after : (task pages : ℕ) (reply : Reply) (new : QuotaRun) → task < 16 → SetsQuota old task pages reply new
      → tasks_of new ≡ after_item t (sets task pages)
  quota_after task pages reply new lt s = ap tasks_of s.whole
      ∙ ap (λ (f : Option QuotaFault). record t { quotas = quotas_after f old.heap.quotas task pages }) (fault_same task pages lt)

  -- the tasks after a command are those of the transcript; below, so is the present task
  pub tasks_after : (c : Command) (reply : Reply) (new : QuotaRun) → IsValidCommand c → QuotaStep old c reply new → tasks_of new ≡ after_if t (item_of now c)
  tasks_after (command.Task task) reply new can step = ap tasks_of step.1
  tasks_after (command.Quota task pages) reply new can step = quota_after task pages reply new (below task can.formed) step
  tasks_after (command.Need task bytes count) reply new can step = ap tasks_of step.1
  tasks_after (command.Admit task) reply new can step = ap tasks_of step.1
  tasks_after c reply new can step = call_after c reply new step

  pub present_then : (c : Command) (reply : Reply) (new : QuotaRun) → QuotaStep old c reply new → new.session.present ≡ present_after now c
  present_then (command.Task task) reply new step = ap (λ (r : QuotaRun). r.session.present) step.1
  present_then (command.Quota task pages) reply new step = ap (λ (r : QuotaRun). r.session.present) step.whole
  present_then (command.Need task bytes count) reply new step = ap (λ (r : QuotaRun). r.session.present) step.1
  present_then (command.Admit task) reply new step = ap (λ (r : QuotaRun). r.session.present) step.1
  present_then c reply new step = call_present c reply new step

  -- the reply to a call of the present task is that of the transcript
  pub reply_shown : (c : Command) (reply : Reply) (new : QuotaRun) → is_for_task c ≡ true → QuotaStep old c reply new → reply ≡ task_reply t now c
  reply_shown (command.Task task) reply new own step = absurd (let e : false ≡ true = own in cc)
  reply_shown (command.Quota task pages) reply new own step = absurd (let e : false ≡ true = own in cc)
  reply_shown (command.Need task bytes count) reply new own step = absurd (let e : false ≡ true = own in cc)
  reply_shown (command.Admit task) reply new own step = absurd (let e : false ≡ true = own in cc)
  reply_shown c reply new own step = call_reply c reply new step

-- a reply to a task follows from the settings, its quota and its objects
abbrev pub ReplyLaw : Type 0
ReplyLaw = (one other : Tasks) (task : ℕ) (command : Command) → other.profile ≡ one.profile → get_or other.quotas task 0 ≡ get_or one.quotas task 0
    → other.objects task ≡ one.objects task → task_reply other task command ≡ task_reply one task command

-- two runs that are alike for a task give it the same replies
pub alike_replies : ReplyLaw → (task : ℕ) (one other after later : QuotaRun) (c : Command) (reply shown_ : Reply) → IsGoingQuotas one → IsGoingQuotas other
    → AreAlikeFor task one other → is_for_task c ≡ true → QuotaStep one c reply after → QuotaStep other c shown_ later → shown_ ≡ reply
alike_replies law task one other after later c reply shown_ goes going a own step more =
    reply_shown other going c shown_ later own more
    ∙ ap (λ v. task_reply (tasks_of other) v c) a.there
    ∙ law (tasks_of one) (tasks_of other) task c a.profile a.quota a.objects
    ∙ sym (reply_shown one goes c reply after own step ∙ ap (λ v. task_reply (tasks_of one) v c) a.here)

pub begun_is : (p : Profile) (s : QuotaRun) → BeginsQuotas p s → tasks_of s ≡ no_tasks (at_bound_one p)
begun_is p s b =
    (λ i. tasks_of (record s { session = b.session i; heap = b.heap i }))
    ∙ (λ i. record (no_tasks (at_bound_one p)) {
      objects = λ u. (ap (λ ids. objects_by_id ids (objects_by (empty_state (at_bound_one p)) u)) (all_same {X = Ids} 16 u empty)
          ∙ none_by_id (objects_by (empty_state (at_bound_one p)) u)) i;
    })

begun_shown : (p : Profile) (s : QuotaRun) → BeginsQuotas p s → state_of s ≡ first_state p
begun_shown p s b = λ i. record {
  present = ap (λ (e : TaskSession). e.present) b.session i;
  tasks = begun_is p s b i;
  needs = λ u. (ap (λ (e : TaskSession). task_needs e u) b.session ∙ all_same {X = List Need} 16 u []) i;
}

module _ (old : QuotaRun) (going : IsGoingQuotas old) where
  -- the declared entries of each task after a command are those of the transcript
  needs_shown : (c : Command) (reply : Reply) (new : QuotaRun) → IsValidCommand c → QuotaStep old c reply new → (u : ℕ)
      → task_needs new.session u ≡ needs_after (task_needs old.session) c u
  needs_shown (command.Task task) reply new can step u = ap (λ (r : QuotaRun). task_needs r.session u) step.1
  needs_shown (command.Quota task pages) reply new can step u = ap (λ (r : QuotaRun). task_needs r.session u) step.whole
  needs_shown (command.Need task bytes count) reply new can step u = ap (λ (r : QuotaRun). task_needs r.session u) step.1 ∙ elim (cases_eq u task) [
    | inl is ↦ (
        let many = (going.sixteen).needs in
        let low : task ≤ 15 = can.formed in
        rw is (get_or-set_same old.session.needs task (one_need_more (task_needs old.session task) entry) [] (omega arith)
        ∙ sym (ap (λ b. cond b (one_need_more (task_needs old.session task) entry) (task_needs old.session task)) (eq_yes task task refl))))
    | inr ne ↦ get_or-set_other old.session.needs task u (one_need_more (task_needs old.session task) entry) [] ne
        ∙ sym (ap (λ b. cond b (one_need_more (task_needs old.session u) entry) (task_needs old.session u)) (eq_no u task ne))
  ]
    where
      entry : Need
      entry = record { bytes = bytes; count = count }
  needs_shown (command.Admit task) reply new can step u = ap (λ (r : QuotaRun). task_needs r.session u) step.1
  needs_shown c reply new can step u = ap (λ (r : QuotaRun). task_needs r.session u) step.whole

  state_shown : (c : Command) (reply : Reply) (new : QuotaRun) → IsValidCommand c → QuotaStep old c reply new → state_of new ≡ state_after (state_of old) c
  state_shown c reply new can step = λ i. record {
    present = present_then old going c reply new step i;
    tasks = tasks_after old going c reply new can step i;
    needs = λ u. needs_shown c reply new can step u i;
  }

  -- the reply to any command is that of the transcript
  command_shown : (c : Command) (reply : Reply) (new : QuotaRun) → IsValidCommand c → QuotaStep old c reply new → reply ≡ command_reply (state_of old) c
  command_shown (command.Task task) reply new can step = step.0
  command_shown (command.Quota task pages) reply new can step = step.reply_is
      ∙ ap (λ f. said (quota_text f)) (fault_same old going task pages (below task can.formed))
  command_shown (command.Need task bytes count) reply new can step = step.0
  command_shown (command.Admit task) reply new can step = (step.0).reply_is
      ∙ ap (λ a. said (admission_text a)) (admission_is _ (task_needs old.session task) (step.0).answer (step.0).meets)
  command_shown c reply new can step = call_reply old going c reply new step

-- the reply to an item and the state after it are those of the transcript, and the run goes on
record IsShownItem (old : Option QuotaRun) (item : Item) (reply : Reply) (new : Option QuotaRun) : Type 0 where
  reply_is : reply ≡ reply_to_item (option_map state_of old) item
  state : option_map state_of new ≡ state_after_item (option_map state_of old) item
  going : IsAt IsGoingQuotas new

item_shown : (old : Option QuotaRun) (item : Item) (reply : Reply) (new : Option QuotaRun) → IsAt IsGoingQuotas old → IsValidItem item
    → PlayStep BeginsTasks QuotaStep old item reply new → IsShownItem old item reply new
item_shown old (starts p) reply new going can step = record {
  reply_is = step.1.1;
  state = ap (option_map state_of) step.2 ∙ ap (λ t. Some t) (begun_shown p step.0 step.1.0);
  going = subst (IsAt IsGoingQuotas) (sym step.2) (begins_going p step.0 step.1.0);
}
item_shown None (asks c) reply new going can step = record {
  reply_is = step.0;
  state = ap (option_map state_of) step.1;
  going = subst (IsAt IsGoingQuotas) (sym step.1) tt;
}
item_shown (Some old) (asks c) reply new going can step = record {
  reply_is = command_shown old going c reply step.0 can step.1;
  state = ap (option_map state_of) step.2 ∙ ap (λ t. Some t) (state_shown old going c reply step.0 can step.1);
  going = subst (IsAt IsGoingQuotas) (sym step.2) (still_going old going c reply step.0 can.formed step.1);
}
item_shown old (bad n) reply new going can step = record {
  reply_is = step.0;
  state = ap (option_map state_of) step.1;
  going = subst (IsAt IsGoingQuotas) (sym step.1) going;
}

run_shown : (items : List Item) (old : Option QuotaRun) (replies : List Reply) (end : Option QuotaRun) → IsAt IsGoingQuotas old → AreValidItems items
    → RunsQuotas old items replies end → replies ≡ task_replies (option_map state_of old) items
run_shown [] old replies end going can run = run.0
run_shown (item ∷ rest) old replies end going can run =
    let now = item_shown old item run.1 run.0 going can.0 run.3 in
    run.4 ∙ ap (λ l. run.1 ∷ l) (run_shown rest run.0 run.2 end now.going can.1 run.5)
    ∙ (λ i. now.reply_is i ∷ task_replies (now.state i) rest)

-- the replies to a script are those of its transcript
pub transcript_shown : (items : List Item) (replies : List Reply) (end : Option QuotaRun) → AreValidItems items → RunsQuotas None items replies end
    → MeetsTasks items replies
transcript_shown items replies end can run = run_shown items None replies end tt can run

-- the replies to the bytes of a script are those of its transcript, from any state before its `heap` line
pub tasks_met : (from : QuotaRun) (all : List ℕ) (replies : List Reply) (end : Option QuotaRun) → RunBy quota_tasks from None (items_within all) replies end
    → MeetsTasks (items_within all) replies
tasks_met from all replies end run = transcript_shown (items_within all) replies end (all_items_valid (take MOST_BYTES all) (nat_le (length all) MOST_BYTES)) run
