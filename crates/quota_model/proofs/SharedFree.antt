-- For proofs about `RemovesForTask`: a free removes one object of its task, may move another of this task, and changes no other task's objects; no page has two
-- tasks, and the quotas stay valid.
use Rattle.std.proofs.Common.{◌≡◌, ◌≢◌, ℕ, ◌<◌, ◌≤◌, List, Option, Some, None, get_or, arith, ap, sym, ◌∙◌, refl, inl, inr, subst}
use Rattle.std.specs.Prelude.{IsTrue, option_map}
use Rattle.std.proofs.lemmas.Bool.{cases_eq}
use Rattle.std.specs.FinMap.{get, insert, remove}
use Rattle.cf_base.specs.Limits.{is_page_size}
use Rattle.cf_base.specs.Settings.{Profile}
use Rattle.cf_base.proofs.MapValues.{get-map_values}
use Rattle.cf_base.proofs.Maps.{some_inserted, some_removed}
use Rattle.page_model.specs.Arrangement.{IsSound, live, pages_needed}
use Rattle.page_model.specs.Held.{Held, Objects, Placed, objects}
use Rattle.page_model.specs.Paging.{Paging, page_of}
use Rattle.page_model.specs.Steps.{Moves, moved_to, without}
use Rattle.page_model.proofs.CallerLemmas.{free_objects, live_taken, sound_without}
use Rattle.quota_model.specs.Parts.{key_of, objects_of_task, task_of}
use Rattle.quota_model.specs.Refusals.{task_paging}
use Rattle.quota_model.specs.Shared.{AreQuotas, IsShared, RemovesForTask}
use Rattle.quota_model.proofs.Ceilings.{pages_grow}
use Rattle.quota_model.proofs.SharedPages.{tasks_paged}
use Rattle.quota_model.proofs.TaskParts.{found_small, found_whole, part_inserted, part_other_inserted, part_other_removed, part_removed}

-- without one of its objects a task needs no more pages
needed_taken : (p : Paging) (o : Objects) (h : ℕ) (v : List ℕ) → get o h ≡ Some v → pages_needed p (remove o h) ≤ pages_needed p o
unfolding pages_needed
needed_taken p o h v some = pages_grow p (live p (remove o h)) (live p o) (λ c. (let a = live_taken p o h v c some in omega arith))

module _ (s : Profile) (old : Held) (task h : ℕ) (x : Placed) (found : get (objects_of_task old task) h ≡ Some x) where
  small : h < 65536
  small = found_small old task h x found

  -- the object that moves is one of the task's
  moves_own : (q : ℕ) → Moves (task_paging s) (objects_of_task old task) x (Some q) → (y : Placed) × (get (objects_of_task old task) q ≡ Some y)
  moves_own q (must, (y, there, may)) = (y, there)

  pub own_without : (moved : Option ℕ) → Moves (task_paging s) (objects_of_task old task) x moved
      → objects_of_task (without old (key_of task h) x.place (option_map (key_of task) moved)) task ≡ without (objects_of_task old task) h x.place moved
  own_without None moves = part_removed old task h small
  own_without (Some q) moves =
      let o = moves_own q moves in
      let y : Placed = o.0 in
      let there = o.1 in
      let whole : get old (key_of task q) ≡ Some o.0 = found_whole old task q o.0 o.1 in
      let q_small : q < 65536 = found_small old task q o.0 o.1 in
      ap (λ found. objects_of_task (moved_to (remove old (key_of task h)) (key_of task q) found x.place) task) whole
      ∙ part_inserted (remove old (key_of task h)) task q q_small (record { place = x.place; bytes = (o.0).bytes })
      ∙ ap (λ m. insert m q (record { place = x.place; bytes = (o.0).bytes })) (part_removed old task h small)
      ∙ sym (ap (λ found. moved_to (remove (objects_of_task old task) h) q found x.place) o.1)

  others_without : (other : ℕ) → other ≢ task → (moved : Option ℕ) → Moves (task_paging s) (objects_of_task old task) x moved
      → objects_of_task (without old (key_of task h) x.place (option_map (key_of task) moved)) other ≡ objects_of_task old other
  others_without other ne None moves = part_other_removed old task h small other ne
  others_without other ne (Some q) moves =
      let o = moves_own q moves in
      let whole : get old (key_of task q) ≡ Some o.0 = found_whole old task q o.0 o.1 in
      let q_small : q < 65536 = found_small old task q o.0 o.1 in
      ap (λ found. objects_of_task (moved_to (remove old (key_of task h)) (key_of task q) found x.place) other) whole
      ∙ part_other_inserted (remove old (key_of task h)) task q q_small other ne (record { place = x.place; bytes = (o.0).bytes })
      ∙ part_other_removed old task h small other ne

  -- for the object y under this key after the free: before it the key had an object too, and an object of the same task was on y's page
  record WasOnPage (key : ℕ) (y : Placed) : Type 0 where
    again : Placed
    under : get old key ≡ Some again
    before : ℕ
    object : Placed
    found_before : get old before ≡ Some object
    whose : task_of key ≡ task_of before
    page : page_of (task_paging s) y.place ≡ page_of (task_paging s) object.place

  stood : (moved : Option ℕ) → Moves (task_paging s) (objects_of_task old task) x moved → (key : ℕ) (y : Placed)
      → get (without old (key_of task h) x.place (option_map (key_of task) moved)) key ≡ Some y → WasOnPage key y
  stood None moves key y f =
      let was = some_removed old (key_of task h) key y f in
      record { again = y; under = was.1; before = key; object = y; found_before = was.1; whose = refl; page = refl }
  stood (Some q) moves key y f =
      let o = moves_own q moves in
      let whole : get old (key_of task q) ≡ Some o.0 = found_whole old task q o.0 o.1 in
      let q_small : q < 65536 = found_small old task q o.0 o.1 in
      let h_small : h < 65536 = small in
      let f' : get (insert (remove old (key_of task h)) (key_of task q) (record { place = x.place; bytes = (o.0).bytes })) key ≡ Some y =
      sym (ap (λ found. get (moved_to (remove old (key_of task h)) (key_of task q) found x.place) key) whole) ∙ f in
      elim (some_inserted (remove old (key_of task h)) (key_of task q) (record { place = x.place; bytes = (o.0).bytes }) key y f') [
        | inl (is, same) ↦ record {
          again = o.0;
          under = ap (get old) is ∙ whole;
          before = key_of task h;
          object = x;
          found_before = found_whole old task h x found;
          whose = omega arith;
          page = ap (λ (z : Placed). page_of (task_paging s) z.place) (sym same);
        }
        | inr (_, was) ↦ (
            let there = some_removed old (key_of task h) key y was in
            record { again = y; under = there.1; before = key; object = y; found_before = there.1; whose = refl; page = refl })
      ]

module _ (s : Profile) (old : Held) (task h : ℕ) (moved : Option ℕ) (new : Held) (is_page : IsTrue (is_page_size s.page_words)) (shared : IsShared s old)
    (step : RemovesForTask s old task h moved new) where
  pub own_freed : objects (objects_of_task new task) ≡ remove (objects (objects_of_task old task)) h
  own_freed = ap (λ m. objects (objects_of_task m task)) step.left ∙ ap objects (own_without s old task h step.freed step.found moved step.moves)
      ∙ free_objects (task_paging s) (tasks_paged s is_page) (objects_of_task old task) (shared.sound task) h step.freed step.found moved step.moves

  pub others_kept : (other : ℕ) → other ≢ task → objects_of_task new other ≡ objects_of_task old other
  others_kept other ne = ap (λ m. objects_of_task m other) step.left ∙ others_without s old task h step.freed step.found other ne moved step.moves

  pub free_shared : IsShared s new
  free_shared = subst (IsShared s) (sym step.left) (record {
    tasks = λ key y f. (let t = stood s old task h step.freed step.found moved step.moves key y f in shared.tasks key t.again t.under);
    numbers = λ key y f. (let t = stood s old task h step.freed step.found moved step.moves key y f in shared.numbers key t.again t.under);
    sound = λ other. elim (cases_eq other task) [
      | inl is ↦ subst (λ t. IsSound (task_paging s) (objects_of_task (without old (key_of task h) (step.freed).place (option_map (key_of task) moved)) t)) (sym is)
          (subst (IsSound (task_paging s)) (sym (own_without s old task h step.freed step.found moved step.moves))
          (sound_without (task_paging s) (tasks_paged s is_page) (objects_of_task old task) (shared.sound task) h step.freed step.found moved step.moves))
      | inr ne ↦ subst (IsSound (task_paging s)) (sym (others_without s old task h step.freed step.found other ne moved step.moves)) (shared.sound other)
    ];
    apart = λ key y other z f g page. (
        let a = stood s old task h step.freed step.found moved step.moves key y f in
        let b = stood s old task h step.freed step.found moved step.moves other z g in
        a.whose ∙ shared.apart a.before a.object b.before b.object a.found_before b.found_before (sym a.page ∙ page ∙ b.page) ∙ sym b.whose);
  })

  pub free_quotas : (quotas : List ℕ) → AreQuotas s quotas old → AreQuotas s quotas new
  free_quotas quotas are = record {
    many = are.many;
    all = are.all;
    enough = λ other. elim (cases_eq other task) [
      | inl is ↦ (
          let there : get (objects (objects_of_task old task)) h ≡ Some (step.freed).bytes = get-map_values (λ (z : Placed). z.bytes) (objects_of_task old task) h
          ∙ ap (option_map (λ (z : Placed). z.bytes)) step.found in
          let a : pages_needed (task_paging s) (objects (objects_of_task new other)) ≡ pages_needed (task_paging s) (remove (objects (objects_of_task old task)) h) =
          ap (λ t. pages_needed (task_paging s) (objects (objects_of_task new t))) is ∙ ap (pages_needed (task_paging s)) own_freed in
          let b = needed_taken (task_paging s) (objects (objects_of_task old task)) h (step.freed).bytes there in
          let d : get_or quotas other 0 ≡ get_or quotas task 0 = ap (λ t. get_or quotas t 0) is in
          let le = are.enough task in
          omega arith)
      | inr ne ↦ (
          let e : pages_needed (task_paging s) (objects (objects_of_task new other)) ≡ pages_needed (task_paging s) (objects (objects_of_task old other)) =
          ap (λ m. pages_needed (task_paging s) (objects m)) (others_kept other ne) in
          let le = are.enough other in
          omega arith)
    ];
  }
