-- For `an_admitted_task_is_served`: after `yes` to `admit`, no malloc of the task is refused while it stays within what it declared. Also, `admit` has one
-- result; and a byte of the first line of a reply (`byte_at`).
use Rattle.std.proofs.Common.{◌≡◌, ℕ, suc, Bool, true, false, ◌+◌, ◌≤◌, List, [], ◌∷◌, ◌++◌, Option, Some, None, Err, length, drop, get_or, arith, ap, sym, ◌∙◌, refl, inl, inr, subst, ◌⊎◌, codes, nat_eq, nat_lt}
use Rattle.run_model.specs.Terms.{asks, bad, Command, empty, get, Item, Reply, said, starts}
use Rattle.std.proofs.lemmas.Bool.{cases_lt}
use Rattle.cf_base.proofs.Ranges.{one}
use Rattle.cf_base.proofs.Tests.{eq_yes, lt_no, lt_yes}
use Rattle.quota_model.proofs.CallerLemmas.{enough_iff, granted_within, live_of-inserted, none_iff, one_answer}
use Rattle.quota_model.specs.Admission.{CanBeAsked, IsAdmission, Share, declared, declared_in_all, first_large, first_refused_for_space, in_order, live_of, pages_needed_by}
use Rattle.quota_model.specs.Refusals.{task_paging}
use Rattle.quota_model.specs.declared.results.Admission.{Admission}
use Rattle.quota_model.specs.declared.results.Admission.TheVariants.{Yes, No, Size, Proxies}
use Rattle.quota_model.specs.declared.results.Need.{Need}
use Rattle.run_model.specs.Replies.{malloc_text}
use Rattle.script_reader.specs.declared.command.Command.TheVariants as command
use Rattle.script_laws.specs.RepliesById.{malloc_fault, malloc_said, ok_or}
use Rattle.quota_session.specs.Admitted.{AreServed, IsMallocWithin, IsServedItem, StayWithin, StaysWithin, states_in}
use Rattle.quota_session.specs.Tasks.{own_heap}
use Rattle.quota_session.specs.Transcript.{MeetsTasks, TaskState, admission, admission_by, admission_text, command_reply, share_of, state_after, task_replies}
use Rattle.quota_session.proofs.Isolated.{same_refusal}

-- a byte of the first line of a reply
abbrev pub byte_at : ℕ → Reply → ℕ
byte_at k reply = get_or (get_or reply 0 []) k 0

-- `admission` is the only answer that `IsAdmission` allows
module _ (t : Share) (needs : List Need) where
  by_parts : (x : Option ℕ) (b : Bool) (y : Option ℕ) → first_large t.profile needs ≡ x → nat_lt t.profile.proxies (declared_in_all needs) ≡ b
      → first_refused_for_space t empty 0 (in_order needs) ≡ y → IsAdmission t needs (admission_by x b y)
  by_parts (Some entry) b y large exceeds short = large
  by_parts None true y large exceeds short = elim (cases_lt t.profile.proxies (declared_in_all needs)) [
    | inl lt ↦ (large, lt)
    | inr le ↦ absurd (let e : true ≡ false = sym exceeds ∙ lt_no _ _ le in cc)
  ]
  by_parts None false y large exceeds short = elim (cases_lt t.profile.proxies (declared_in_all needs)) [
    | inl lt ↦ absurd (let e : true ≡ false = sym (lt_yes _ _ lt) ∙ exceeds in cc)
    | inr le ↦ by_short y short (record { none_large = large; few = le })
  ]
    where
      by_short : (y : Option ℕ) → first_refused_for_space t empty 0 (in_order needs) ≡ y → CanBeAsked t.profile needs → IsAdmission t needs (admission_by None false y)
      by_short None short asked = (asked, (enough_iff t needs asked).1 ((none_iff t needs asked).0 short))
      by_short (Some nth) short asked = (asked, short)

  admission_meets : IsAdmission t needs (admission t needs)
  admission_meets = by_parts _ _ _ refl refl refl

  pub admission_is : (a : Admission) → IsAdmission t needs a → a ≡ admission t needs
  admission_is a meets = one_answer t needs a (admission t needs) meets admission_meets

  said_yes : (a : Admission) → said (admission_text a) ≡ said (codes "yes") → a ≡ Yes
  said_yes Yes e = refl
  said_yes (No nth) e = absurd (let d : 110 ≡ 121 = ap (byte_at 0) e in omega arith)
  said_yes (Size entry) e = absurd (let d : 115 ≡ 121 = ap (byte_at 0) e in omega arith)
  said_yes Proxies e = absurd (let d : 112 ≡ 121 = ap (byte_at 0) e in omega arith)

  -- `yes`: the declared objects can be asked for, and need no more pages than the quota has
  yes_means : said (admission_text (admission t needs)) ≡ said (codes "yes")
      → CanBeAsked t.profile needs × (pages_needed_by (task_paging t.profile) (in_order needs) ≤ t.quota)
  yes_means e =
      let meets : IsAdmission t needs Yes = subst (IsAdmission t needs) (said_yes (admission t needs) e) admission_meets in
      (meets.0, (enough_iff t needs meets.0).0 meets.1)

profile_kept : (now : TaskState) (c : Command) → (state_after now c).tasks.profile ≡ now.tasks.profile
profile_kept now (command.Task u) = refl
profile_kept now c = refl

module _ (task : ℕ) (admitted : TaskState) (asked : CanBeAsked admitted.tasks.profile (admitted.needs task))
    (enough : pages_needed_by (task_paging admitted.tasks.profile) (in_order (admitted.needs task)) ≤ get_or admitted.tasks.quotas task 0) where
  -- an object that is declared is granted
  is_granted : (now : TaskState) → now.tasks.profile ≡ admitted.tasks.profile → (id n : ℕ) → get (now.tasks.objects task) id ≡ None
      → IsMallocWithin admitted now task id n → malloc_fault (own_heap now.tasks task) n ≡ None
  is_granted now same id n free w =
      let needs = admitted.needs task in
      let o = now.tasks.objects task in
      let quota : get_or admitted.tasks.quotas task 0 ≤ get_or now.tasks.quotas task 0 = w.quota in
      let with_it : (m : ℕ) → live_of o m + one (nat_eq n m) ≤ declared needs m =
      λ m. subst (λ k. k ≤ declared needs m) (live_of-inserted o id n m free) (w.declared m) in
      let here : live_of o n + 1 ≤ declared needs n = subst (λ b. live_of o n + one b ≤ declared needs n) (eq_yes n n refl) (with_it n) in
      let few : CanBeAsked now.tasks.profile needs = subst (λ p. CanBeAsked p needs) (sym same) asked in
      let room : pages_needed_by (task_paging now.tasks.profile) (in_order needs) ≤ get_or admitted.tasks.quotas task 0 =
      subst (λ p. pages_needed_by (task_paging p) (in_order needs) ≤ get_or admitted.tasks.quotas task 0) (sym same) enough in
      same_refusal now.tasks task n
      ∙ granted_within (share_of now.tasks task) needs few (omega arith) o n (λ m. (let le = with_it m in omega arith)) here

  malloc_served : (now : TaskState) → now.tasks.profile ≡ admitted.tasks.profile → (id n : ℕ)
      → (get (now.tasks.objects task) id ≡ None → IsMallocWithin admitted now task id n) → (r : Reply)
      → r ≡ said (malloc_said (get (now.tasks.objects task) id) (own_heap now.tasks task) n) → (r ≡ said (codes "ok")) ⊎ (r ≡ said (codes "live"))
  malloc_served now same id n within r is = by_id (get (now.tasks.objects task) id) refl is
    where
      by_id : (x : Option (List ℕ)) → get (now.tasks.objects task) id ≡ x → r ≡ said (malloc_said x (own_heap now.tasks task) n)
          → (r ≡ said (codes "ok")) ⊎ (r ≡ said (codes "live"))
      by_id (Some v) live e = inr e
      by_id None free e = inl (e ∙ ap (λ f. said (ok_or (λ x. malloc_text (Err x)) f)) (is_granted now same id n free (within free)))

  one_served : (now : TaskState) → now.tasks.profile ≡ admitted.tasks.profile → (c : Command) → StaysWithin admitted task (Some now) (asks c)
      → IsServedItem task now.present (asks c) (command_reply now c)
  one_served now same (command.Malloc id n) within = λ here. malloc_served now same id n (within here) _
      (ap (λ v. said (malloc_said (get (now.tasks.objects v) id) (own_heap now.tasks v) n)) here)
  one_served now same c within = tt

  served : (items : List Item) (now : TaskState) → now.tasks.profile ≡ admitted.tasks.profile → StayWithin admitted task (Some now) items
      → AreServed task now.present items (task_replies (Some now) items)
  served [] now same within = tt
  served (starts p ∷ rest) now same within = absurd within.0
  served (bad n ∷ rest) now same within = (tt, served rest now same within.1)
  served (asks c ∷ rest) now same within =
      (one_served now same c within.0, served rest (state_after now c) (profile_kept now c ∙ same) within.1)

-- the first reply after those to `before` is the reply to the first item of `rest` in the state that `before` leaves
reply_there : (before rest : List Item) (s : Option TaskState)
    → get_or (task_replies s (before ++ rest)) (length before) [] ≡ get_or (task_replies (states_in s before) rest) 0 []
reply_there [] rest s = refl
reply_there (item ∷ before) rest s = reply_there before rest _

after_there : (before rest : List Item) (s : Option TaskState)
    → drop (suc (length before)) (task_replies s (before ++ rest)) ≡ drop 1 (task_replies (states_in s before) rest)
after_there [] rest s = refl
after_there (item ∷ before) rest s = after_there before rest _

pub admitted_served : (before later : List Item) (task : ℕ) (admitted : TaskState) (replies : List Reply) → states_in None before ≡ Some admitted
    → MeetsTasks (before ++ asks (command.Admit task) ∷ later) replies → get_or replies (length before) [] ≡ said (codes "yes")
    → StayWithin admitted task (Some admitted) later → AreServed task admitted.present later (drop (length before + 1) replies)
admitted_served before later task admitted replies led meets granted within =
    let rest = asks (command.Admit task) ∷ later in
    let there : (λ (s : Option TaskState). get_or (task_replies s rest) 0 []) (Some admitted) ≡ said (codes "yes") =
    sym (ap (λ l. get_or l (length before) []) meets ∙ reply_there before rest None ∙ ap (λ s. get_or (task_replies s rest) 0 []) led) ∙ granted in
    let one_more : length before + 1 ≡ suc (length before) = omega arith in
    let left : drop (length before + 1) replies ≡ task_replies (Some admitted) later =
    (λ i. drop (one_more i) (meets i)) ∙ after_there before rest None ∙ ap (λ s. drop 1 (task_replies s rest)) led in
    let can = yes_means (share_of admitted.tasks task) (admitted.needs task) there in
    subst (AreServed task admitted.present later) (sym left) (served task admitted can.0 can.1 later admitted refl within)
