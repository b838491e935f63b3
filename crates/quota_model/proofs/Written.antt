-- For proofs about writes of a task: if an object of a task gets other bytes of the same class, no other object changes, the task has as many objects of each
-- class and needs as many pages as before, no page has two tasks, and the quotas stay valid.
use Rattle.std.proofs.Common.{◌≡◌, ◌≢◌, ℕ, ◌<◌, List, Some, length, get_or, arith, ap, sym, ◌∙◌, refl, inl, inr, subst}
use Rattle.std.specs.Prelude.{option_map}
use Rattle.std.proofs.lemmas.Bool.{cases_eq}
use Rattle.std.specs.FinMap.{get, insert}
use Rattle.cf_base.specs.Settings.{Profile}
use Rattle.cf_base.proofs.MapValues.{get-map_values, map_values-insert}
use Rattle.cf_base.proofs.Maps.{get_removed, some_inserted}
use Rattle.cf_base.proofs.Sums.{insert_again}
use Rattle.page_model.specs.Arrangement.{IsSound, live, pages_needed}
use Rattle.page_model.specs.Held.{Held, Placed, objects}
use Rattle.page_model.specs.Paging.{class_for, page_of}
use Rattle.page_model.proofs.CallerLemmas.{sound_exchanged, live_rewritten}
use Rattle.quota_model.specs.Parts.{key_of, objects_of_task}
use Rattle.quota_model.specs.Refusals.{task_paging}
use Rattle.quota_model.specs.Shared.{AreQuotas, IsShared}
use Rattle.quota_model.proofs.Ceilings.{pages_same}
use Rattle.quota_model.proofs.TaskParts.{found_small, found_whole, part_inserted, part_other_inserted}

module _ (s : Profile) (m : Held) (t h : ℕ) (x : Placed) (found : get (objects_of_task m t) h ≡ Some x) (u : List ℕ)
    (class : class_for (task_paging s) (length u) ≡ class_for (task_paging s) (length x.bytes)) where
  abbrev now : Placed
  now = record { place = x.place; bytes = u }

  abbrev pub rewritten : Held
  rewritten = insert m (key_of t h) (record { place = x.place; bytes = u })

  small : h < 65536
  small = found_small m t h x found

  there : get m (key_of t h) ≡ Some x
  there = found_whole m t h x found

  pub own_rewritten : objects_of_task rewritten t ≡ insert (objects_of_task m t) h (record { place = x.place; bytes = u })
  own_rewritten = part_inserted m t h small now

  pub others_rewritten : (other : ℕ) → other ≢ t → objects_of_task rewritten other ≡ objects_of_task m other
  others_rewritten other ne = part_other_inserted m t h small other ne now

  own_sound : IsSound (task_paging s) (objects_of_task m t) → IsSound (task_paging s) (insert (objects_of_task m t) h now)
  own_sound sound = subst (IsSound (task_paging s)) (insert_again (objects_of_task m t) h now)
      (sound_exchanged (task_paging s) (objects_of_task m t) h x found h u (get_removed (objects_of_task m t) h) class sound)

  bytes_there : get (objects (objects_of_task m t)) h ≡ Some x.bytes
  bytes_there = get-map_values (λ (y : Placed). y.bytes) (objects_of_task m t) h ∙ ap (option_map (λ (y : Placed). y.bytes)) found

  pub objects_rewritten : objects (objects_of_task rewritten t) ≡ insert (objects (objects_of_task m t)) h u
  objects_rewritten = ap objects own_rewritten ∙ map_values-insert (λ (y : Placed). y.bytes) (objects_of_task m t) h now

  pub live_same : (c : ℕ) → live (task_paging s) (objects (objects_of_task rewritten t)) c ≡ live (task_paging s) (objects (objects_of_task m t)) c
  live_same c = ap (λ o. live (task_paging s) o c) objects_rewritten ∙ live_rewritten (task_paging s) (objects (objects_of_task m t)) h x.bytes u bytes_there class c

  pub needed_same : pages_needed (task_paging s) (objects (objects_of_task rewritten t)) ≡ pages_needed (task_paging s) (objects (objects_of_task m t))
  unfolding pages_needed
  needed_same = pages_same (task_paging s) (live (task_paging s) (objects (objects_of_task rewritten t))) (live (task_paging s) (objects (objects_of_task m t))) live_same

  -- for the object y under this key after the write: before it the key had an object on the same page
  record WasOnPage (key : ℕ) (y : Placed) : Type 0 where
    before : Placed
    under : get m key ≡ Some before
    page : page_of (task_paging s) y.place ≡ page_of (task_paging s) before.place

  stood : (key : ℕ) (y : Placed) → get rewritten key ≡ Some y → WasOnPage key y
  stood key y f = elim (some_inserted m (key_of t h) now key y f) [
    | inl (is, same) ↦ record { before = x; under = ap (get m) is ∙ there; page = ap (λ (z : Placed). page_of (task_paging s) z.place) (sym same) }
    | inr (_, was) ↦ record { before = y; under = was; page = refl }
  ]

  pub rewritten_shared : IsShared s m → IsShared s rewritten
  rewritten_shared shared = record {
    tasks = λ key y f. (let w = stood key y f in shared.tasks key w.before w.under);
    numbers = λ key y f. (let w = stood key y f in shared.numbers key w.before w.under);
    sound = λ other. elim (cases_eq other t) [
      | inl is ↦ subst (λ o. IsSound (task_paging s) (objects_of_task rewritten o)) (sym is)
          (subst (IsSound (task_paging s)) (sym own_rewritten) (own_sound (shared.sound t)))
      | inr ne ↦ subst (IsSound (task_paging s)) (sym (others_rewritten other ne)) (shared.sound other)
    ];
    apart = λ key y other z f g page. (
        let a = stood key y f in
        let b = stood other z g in
        shared.apart key a.before other b.before a.under b.under (sym a.page ∙ page ∙ b.page));
  }

  pub rewritten_quotas : (quotas : List ℕ) → AreQuotas s quotas m → AreQuotas s quotas rewritten
  rewritten_quotas quotas are = record {
    many = are.many;
    all = are.all;
    enough = λ other. elim (cases_eq other t) [
      | inl is ↦ (
          let a : pages_needed (task_paging s) (objects (objects_of_task rewritten other)) ≡ pages_needed (task_paging s) (objects (objects_of_task m t)) =
          ap (λ o. pages_needed (task_paging s) (objects (objects_of_task rewritten o))) is ∙ needed_same in
          let b : get_or quotas other 0 ≡ get_or quotas t 0 = ap (λ o. get_or quotas o 0) is in
          let le = are.enough t in
          omega arith)
      | inr ne ↦ (
          let e : pages_needed (task_paging s) (objects (objects_of_task rewritten other)) ≡ pages_needed (task_paging s) (objects (objects_of_task m other)) =
          ap (λ o. pages_needed (task_paging s) (objects o)) (others_rewritten other ne) in
          let le = are.enough other in
          omega arith)
    ];
  }
