-- For proofs about `PlacesForTask`: a malloc adds an object to its task and changes no other task's objects; no page has two tasks, and if it isn't refused the
-- quotas stay valid.
use Rattle.std.proofs.Common.{◌≡◌, ◌≢◌, ℕ, Bool, true, false, cond, ◌+◌, ◌<◌, ◌≤◌, List, Some, None, length, get_or, replicate}
use Rattle.std.proofs.Common.{arith, ap, sym, ◌∙◌, refl, inl, inr, subst}
use Rattle.std.specs.Prelude.{IsTrue, nat_eq, nat_lt}
use Rattle.std.proofs.lemmas.Bool.{cases_eq, cases_lt, false≢true}
use Rattle.std.proofs.lemmas.List.{length-replicate}
use Rattle.std.specs.FinMap.{get, insert}
use Rattle.cf_base.specs.Limits.{is_page_size}
use Rattle.cf_base.specs.Settings.{Profile}
use Rattle.cf_base.specs.declared.results.Refusal.TheVariants as refusal
use Rattle.cf_base.proofs.MapValues.{get-map_values}
use Rattle.cf_base.proofs.Maps.{some_inserted}
use Rattle.cf_base.proofs.Ranges.{one}
use Rattle.cf_base.proofs.Tests.{lt_yes}
use Rattle.page_model.specs.Arrangement.{IsSound, live, pages_needed, pages_needed_with}
use Rattle.page_model.specs.Held.{Held, Objects, Placed, objects}
use Rattle.page_model.specs.Paging.{Paging, class_for, page_of}
use Rattle.page_model.specs.Steps.{Request, zeros_at}
use Rattle.page_model.proofs.CallerLemmas.{live_added, malloc_objects, sound_malloc}
use Rattle.quota_model.specs.Parts.{key_of, objects_of_task, task_of}
use Rattle.quota_model.specs.Refusals.{malloc_refusal, task_paging}
use Rattle.quota_model.specs.Shared.{AreQuotas, IsShared, PlacesForTask}
use Rattle.quota_model.proofs.Ceilings.{pages_same}
use Rattle.quota_model.proofs.SharedPages.{tasks_paged}
use Rattle.quota_model.proofs.TaskParts.{part_inserted, part_other_inserted}
use Rattle.std.specs.Prelude.{option_map}

pub needed_added : (p : Paging) (o : Objects) (h n : ℕ) → get o h ≡ None → pages_needed p (insert o h (replicate n 0)) ≡ pages_needed_with p o n
unfolding pages_needed pages_needed_with
needed_added p o h n none = pages_same p (live p (insert o h (replicate n 0))) (λ c. live p o c + one (nat_eq (class_for p n) c)) (λ c. (
    let a = live_added p o h (replicate n 0) c none in
    let b : one (nat_eq (class_for p (length (replicate {A = ℕ} n 0))) c) ≡ one (nat_eq (class_for p n) c) =
    ap (λ k. one (nat_eq (class_for p k) c)) (length-replicate {A = ℕ} n 0) in
    omega arith))

pick_none : (a b c : Bool) → cond a (Some refusal.Size) (cond b (Some refusal.Proxy) (cond c (Some refusal.Space) None)) ≡ None → c ≡ false
pick_none true b c e = absurd (let e' : Some refusal.Size ≡ None = e in cc)
pick_none false true c e = absurd (let e' : Some refusal.Proxy ≡ None = e in cc)
pick_none false false true e = absurd (let e' : Some refusal.Space ≡ None = e in cc)
pick_none false false false e = refl

module _ (s : Profile) (old : Held) (task : ℕ) (asked : Request) (new : Held) (few : s.proxies ≤ 65536) (step : PlacesForTask s old task asked new) where
  small : asked.number < 65536
  small = (let lt = step.in_range in omega arith)

  own_part : objects_of_task new task ≡ insert (objects_of_task old task) asked.number (zeros_at step.place asked.length)
  own_part = ap (λ m. objects_of_task m task) step.placed ∙ part_inserted old task asked.number small (zeros_at step.place asked.length)

  pub others_stay : (other : ℕ) → other ≢ task → objects_of_task new other ≡ objects_of_task old other
  others_stay other ne = ap (λ m. objects_of_task m other) step.placed ∙ part_other_inserted old task asked.number small other ne (zeros_at step.place asked.length)

  pub own_objects : objects (objects_of_task new task) ≡ insert (objects (objects_of_task old task)) asked.number (replicate asked.length 0)
  own_objects = ap objects own_part ∙ malloc_objects (objects_of_task old task) asked.number step.place asked.length

  pub quotas_stay : (quotas : List ℕ) → AreQuotas s quotas old
      → malloc_refusal s (get_or quotas task 0) (objects (objects_of_task old task)) asked.length ≡ None → AreQuotas s quotas new
  quotas_stay quotas are granted = record {
    many = are.many;
    all = are.all;
    enough = λ other. elim (cases_eq other task) [
      | inl is ↦ (
          let unused : get (objects (objects_of_task old task)) asked.number ≡ None =
          get-map_values (λ (x : Placed). x.bytes) (objects_of_task old task) asked.number ∙ ap (option_map (λ (x : Placed). x.bytes)) step.unused in
          let a : pages_needed (task_paging s) (objects (objects_of_task new other)) ≡ pages_needed_with (task_paging s) (objects (objects_of_task old task)) asked.length =
          ap (λ t. pages_needed (task_paging s) (objects (objects_of_task new t))) is ∙ ap (pages_needed (task_paging s)) own_objects
          ∙ needed_added (task_paging s) (objects (objects_of_task old task)) asked.number asked.length unused in
          let fails = pick_none _ _ (nat_lt (get_or quotas task 0) (pages_needed_with (task_paging s) (objects (objects_of_task old task)) asked.length)) granted in
          let le : pages_needed_with (task_paging s) (objects (objects_of_task old task)) asked.length ≤ get_or quotas task 0 =
          elim (cases_lt (get_or quotas task 0) (pages_needed_with (task_paging s) (objects (objects_of_task old task)) asked.length)) [
            | inl more ↦ absurd (false≢true (sym fails ∙ lt_yes _ _ more))
            | inr fine ↦ fine
          ] in
          let b : get_or quotas other 0 ≡ get_or quotas task 0 = ap (λ t. get_or quotas t 0) is in
          omega arith)
      | inr ne ↦ (
          let e : pages_needed (task_paging s) (objects (objects_of_task new other)) ≡ pages_needed (task_paging s) (objects (objects_of_task old other)) =
          ap (λ m. pages_needed (task_paging s) (objects m)) (others_stay other ne) in
          let le = are.enough other in
          omega arith)
    ];
  }

  pub stays_shared : IsTrue (is_page_size s.page_words) → task < 16 → IsShared s old → IsShared s new
  stays_shared is_page lt shared = subst (IsShared s) (sym step.placed) (record {
    tasks = λ key x f. elim (some_inserted old (key_of task asked.number) (zeros_at step.place asked.length) key x f) [
      | inl (is, _) ↦ (let w = small in omega arith)
      | inr (_, was) ↦ shared.tasks key x was
    ];
    numbers = λ key x f. elim (some_inserted old (key_of task asked.number) (zeros_at step.place asked.length) key x f) [
      | inl (is, _) ↦ (let w = small in let r = step.in_range in omega arith)
      | inr (_, was) ↦ shared.numbers key x was
    ];
    sound = λ other. elim (cases_eq other task) [
      | inl is ↦ subst (λ t. IsSound (task_paging s) (objects_of_task (insert old (key_of task asked.number) (zeros_at step.place asked.length)) t)) (sym is)
          (sound_malloc (task_paging s) (objects_of_task old task) asked (objects_of_task (insert old (key_of task asked.number) (zeros_at step.place asked.length)) task)
          (tasks_paged s is_page) (shared.sound task) (record {
            place = step.place;
            unused = step.unused;
            free = step.free;
            placed = part_inserted old task asked.number small (zeros_at step.place asked.length);
          }))
      | inr ne ↦ subst (IsSound (task_paging s)) (sym (part_other_inserted old task asked.number small other ne (zeros_at step.place asked.length)))
          (shared.sound other)
    ];
    apart = λ key x other y f g. elim (some_inserted old (key_of task asked.number) (zeros_at step.place asked.length) key x f) [
      | inl (is, same) ↦ elim (some_inserted old (key_of task asked.number) (zeros_at step.place asked.length) other y g) [
        | inl (is', _) ↦ λ _. ap task_of (is ∙ sym is')
        | inr (_, was) ↦ λ page. (
            let own : task_of other ≡ task = step.own other y was (sym page ∙ ap (λ (z : Placed). page_of (task_paging s) z.place) (sym same)) in
            let w = small in
            omega arith)
      ]
      | inr (_, was) ↦ elim (some_inserted old (key_of task asked.number) (zeros_at step.place asked.length) other y g) [
        | inl (is', same') ↦ λ page. (
            let own : task_of key ≡ task = step.own key x was (page ∙ ap (λ (z : Placed). page_of (task_paging s) z.place) (sym same')) in
            let w = small in
            omega arith)
        | inr (_, was') ↦ shared.apart key x other y was was'
      ]
    ];
  })
