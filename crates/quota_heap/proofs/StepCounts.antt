-- For the clauses on steps of `malloc` and `free`: the steps by the task's tables are those that the number of its objects determines, and the parts of a call
-- sum to its exact cost; the most that these costs can be.
use Rattle.std.proofs.Common.{◌≡◌, ℕ, ◌+◌, ◌%◌, ◌<◌, ◌≤◌, List, [], ◌∷◌, length, Option, Some, None, Result, Ok, Err, Bool, true, false, arith, refl}
use Rattle.std.proofs.Common.{sym, ◌∙◌, ap, inr}
use Rattle.std.specs.Prelude.{if◌then◌else◌, nat_eq, slice_get}
use Rattle.std.specs.FinMap.{get}
use Rattle.cf_base.specs.Classes.{class_of}
use Rattle.cf_base.specs.declared.results.Freed.{Freed}
use Rattle.cf_base.specs.declared.results.Handle.{Handle}
use Rattle.cf_base.specs.declared.results.NotLive.{NotLive}
use Rattle.cf_base.specs.declared.results.Refusal.{Refusal}
use Rattle.cf_base.proofs.Tests.{eq_no, eq_yes}
use Rattle.class_lists.specs.PageLists.{pages_in}
use Rattle.class_lists.specs.declared.Which.TheVariants.{NotFull}
use Rattle.page_model.specs.Arrangement.{class_at, live, not_full_pages, objects_on}
use Rattle.page_model.specs.Held.{Placed}
use Rattle.page_model.specs.Image.{slot_for}
use Rattle.page_model.specs.Order.{fill_steps, open_steps, steps_to_drop}
use Rattle.page_model.specs.Paging.{class_for, classes, page_of, slots_of}
use Rattle.page_slots.specs.Release.{drop_slot_steps as table_drop, fill_slot_steps as table_fill}
use Rattle.page_slots.specs.Take.{take_slot_steps as table_take}
use Rattle.page_slots.specs.Tables.{page_at, slots_on, used_in}
use Rattle.page_slots.specs.Occupying.{class_table}
use Rattle.page_slots.proofs.CallerLemmas.{drop_same, front_listed, not_full_pages_are, class_is, it, it_found, it_class, it_slot, page_same}
use Rattle.page_slots.proofs.CallerLemmas.{it_used, some_not_full}
use Rattle.page_slots.proofs.Pages.{listed_page, placed_in}
use Rattle.step_ledger.specs.Counting.{RoseAtMost, RoseBy}
use Rattle.step_ledger.proofs.CallerLemmas.{rose_both, rose_by}
use Rattle.quota_model.specs.Refusals.{task_paging}
use Rattle.cf_base.specs.declared.kind.Kind.TheVariants.{Moving}
use Rattle.page_slots.specs.Leaving.{leaving_steps}
use Rattle.quota_heap.specs.Calls.{IsRemoved, parts_without, slot_of}
use Rattle.quota_heap.specs.Costs.{on_partly_full, taking_steps, task_free_cost, task_free_steps, task_leaving_cost, task_malloc_cost}
use Rattle.quota_heap.specs.Layout.{ArePages, IsTask, IsTaskIn, IsValid, held_of, objects_of, shared_paging, tasks_state_of, tables_of, as_owner}
use Rattle.quota_heap.specs.State.{QuotaState, held_by}
use Rattle.quota_heap.specs.Steps.{IsTaskFreeStep}
use Rattle.quota_heap.specs.declared.shared_pages.SharedPages.{SharedPages}
use Rattle.quota_heap.specs.declared.open_tasks.OpenTasks.{OpenTasks}
use Rattle.quota_heap.specs.declared.task.Task.{Task}
use Rattle.quota_heap.proofs.Facts.{at_one, paging_ok, table_is, owns}
use Rattle.quota_heap.proofs.PartlyFull.{none_left, partly_left}
use Rattle.quota_heap.proofs.Refusals.{objects_same}
use Rattle.quota_heap.proofs.Tasks.{part_is}
use Rattle.page_slots.specs.Owner.{IsObjectAt}

module _ (g : SharedPages) (k : ArePages g) (t : ℕ) (x : Task) (i : IsTask g t x) (c : ℕ) (lt : c < classes (shared_paging g)) where
  abbrev rest : ℕ
  rest = live (shared_paging g) (objects_of g x) c % slots_of (shared_paging g) c

  as_long : not_full_pages (shared_paging g) (held_of g x) c ≡ length (pages_in x.lists c NotFull)
  as_long = not_full_pages_are (shared_paging g) (paging_ok g) (held_of g x) (tables_of g x) i.serve i.occupied c

  no_rest : pages_in x.lists c NotFull ≡ [] → rest ≡ 0
  no_rest none = none_left (shared_paging g) (paging_ok g) (at_one g) (held_of g x) i.sound c lt (as_long ∙ ap length none)

  -- the page in front holds the rest of the class's objects
  front_rest : (page : ℕ) → slice_get (pages_in x.lists c NotFull) 0 ≡ Some page → (used_in (slots_on (tables_of g x) page) ≡ rest) × (0 < rest)
  front_rest page front =
      let listed = front_listed (pages_in x.lists c NotFull) page front in
      let stands = placed_in (class_table (shared_paging g)) (tables_of g x) i.serve.tables c page NotFull listed in
      let inside = listed_page (class_table (shared_paging g)) (tables_of g x) i.serve.tables c page NotFull listed in
      let some = stands.fills.0 in
      let less = stands.fills.1 in
      let counts : objects_on (shared_paging g) (held_of g x) c page ≡ used_in (slots_on (tables_of g x) page) = i.occupied.counted c page (inr listed) in
      let pages = i.serve.pages in
      let is = partly_left (shared_paging g) (paging_ok g) (at_one g) (held_of g x) i.sound c lt page (omega arith) (omega arith) (omega arith) in
      (sym counts ∙ is, omega arith)

  -- the steps of taking a slot, by the tables and by the number of objects
  takes_by : (pages : List ℕ) → pages_in x.lists c NotFull ≡ pages → (free : List ℕ) → g.tables.pool.free ≡ free
      → (pages_in x.lists c NotFull ≡ [] → g.tables.pool.free ≡ [] → ⊥)
      → table_take (class_table (shared_paging g)) (tables_of g x) c ≡ taking_steps rest (slots_of (shared_paging g) c)
  takes_by [] none [] empty room = absurd (room none empty)
  takes_by [] none (page ∷ more) some room =
      let e = eq_yes rest 0 (no_rest none) in
      let by_table : table_take (class_table (shared_paging g)) (tables_of g x) c ≡ 11 = rw (table_take, none, some) refl in
      let by_count : taking_steps rest (slots_of (shared_paging g) c) ≡ 11 = rw (taking_steps, e) refl in
      by_table ∙ sym by_count
  takes_by (page ∷ more) first free is room =
      let front : slice_get (pages_in x.lists c NotFull) 0 ≡ Some page = ap (λ pages. slice_get pages 0) first in
      let (used, some) = front_rest page front in
      let e = eq_no rest 0 (λ zero'. absurd (omega arith)) in
      let by_table : table_take (class_table (shared_paging g)) (tables_of g x) c ≡ open_steps (used_in (slots_on (tables_of g x) page)) (slots_of (shared_paging g) c) =
      rw (table_take, first) refl in
      let by_count : taking_steps rest (slots_of (shared_paging g) c) ≡ open_steps rest (slots_of (shared_paging g) c) = rw (taking_steps, e) refl in
      by_table ∙ ap (λ n. open_steps n (slots_of (shared_paging g) c)) used ∙ sym by_count

  pub take_is : (pages_in x.lists c NotFull ≡ [] → g.tables.pool.free ≡ [] → ⊥)
      → table_take g.tables.classes (tables_of g x) c
      ≡ taking_steps (live (shared_paging g) (objects_of g x) c % slots_of (shared_paging g) c) (slots_of (shared_paging g) c)
  take_is room = ap (λ t. table_take t (tables_of g x) c) (sym (table_is g k))
      ∙ takes_by (pages_in x.lists c NotFull) refl g.tables.pool.free refl room

  -- the steps of finding the object that moves and freeing its slot
  fills_by : (pages : List ℕ) → pages_in x.lists c NotFull ≡ pages → 1 ≤ length pages → table_fill (tables_of g x) c ≡ fill_steps rest
  fills_by [] none some = absurd (omega arith)
  fills_by (page ∷ more) first some =
      let front : slice_get (pages_in x.lists c NotFull) 0 ≡ Some page = ap (λ pages. slice_get pages 0) first in
      let used = (front_rest page front).0 in
      let by_table : table_fill (tables_of g x) c ≡ fill_steps (used_in (slots_on (tables_of g x) page)) = rw (table_fill, first) refl in
      by_table ∙ ap fill_steps used

  pub fill_is : 1 ≤ length (pages_in x.lists c NotFull)
      → table_fill (tables_of g x) c ≡ fill_steps (live (shared_paging g) (objects_of g x) c % slots_of (shared_paging g) c)
  fill_is some = fills_by (pages_in x.lists c NotFull) refl some

-- of the freed object
module _ {g : SharedPages} (k : ArePages g) {t : ℕ} {x : Task} (i : IsTask g t x) {q a size c : ℕ} (o : IsObjectAt (as_owner g x) q a size c) where
  drops_by : table_drop (tables_of g x) (page_at g.tables.classes a)
      ≡ steps_to_drop (shared_paging g) (held_of g x) (class_at (shared_paging g) (it (owns k i) o)) (page_of (shared_paging g) a)
  drops_by = drop_same i.serve i.occupied o.in_range x.proxies.free (page_at g.tables.classes a) (it_used (owns k i) o).of
      ∙ ap (λ d. steps_to_drop (shared_paging g) (held_of g x) d (page_at g.tables.classes a)) (sym (it_class (owns k i) o))
      ∙ ap (steps_to_drop (shared_paging g) (held_of g x) (class_at (shared_paging g) (it (owns k i) o))) (sym (page_same (owns k i) o))

-- a task of an open heap
module _ (h : OpenTasks) (k : IsValid h) (t : ℕ) (x : Task) (at : IsTaskIn h t x) where
  abbrev g : SharedPages
  g = h.shared_pages

  i : IsTask h.shared_pages t x
  i = k.task t x at

  rest_same : (c : ℕ) → on_partly_full (tasks_state_of h) t c ≡ live (shared_paging h.shared_pages) (objects_of h.shared_pages x) c % slots_of (shared_paging h.shared_pages) c
  rest_same c = ap (λ o. live (shared_paging g) o c % slots_of (shared_paging g) c) (objects_same h k t x at)

  -- the steps of a malloc's parts sum to its exact cost
  pub malloc_sum : (bytes c : ℕ) → Some c ≡ class_of h.shared_pages.tables.classes.sizes bytes
      → (pages_in x.lists c NotFull ≡ [] → h.shared_pages.tables.pool.free ≡ [] → ⊥) → (q : Handle) (s u v : ℕ) → RoseBy s u 1
      → RoseBy u v (table_take h.shared_pages.tables.classes (tables_of h.shared_pages x) c + 3) → RoseBy s v (task_malloc_cost (tasks_state_of h) t bytes (Ok q))
  malloc_sum bytes c found room q s u v one more =
      let is = class_is (paging_ok g) (table_is g k.shared_pages) bytes c found in
      let take = take_is g k.shared_pages t x i c is.2 room in
      let same : taking_steps (on_partly_full (tasks_state_of h) t (class_for (shared_paging g) bytes)) (slots_of (shared_paging g) (class_for (shared_paging g) bytes))
      ≡ taking_steps (live (shared_paging g) (objects_of g x) c % slots_of (shared_paging g) c) (slots_of (shared_paging g) c) =
      ap (λ d. taking_steps (on_partly_full (tasks_state_of h) t d) (slots_of (shared_paging g) d)) is.1
      ∙ ap (λ n. taking_steps n (slots_of (shared_paging g) c)) (rest_same c) in
      rose_by s v (1 + (table_take h.shared_pages.tables.classes (tables_of h.shared_pages x) c + 3)) (task_malloc_cost (tasks_state_of h) t bytes (Ok q)) (omega arith)
      (rose_both s u v 1 _ one more)

  module _ (q a size c : ℕ) (o : IsObjectAt (as_owner h.shared_pages x) q a size c) where
    abbrev y : Placed
    y = it (owns k.shared_pages i) o

    found : get (held_by (tasks_state_of h) t) q ≡ Some (it (owns k.shared_pages i) o)
    found = ap (λ m. get m q) (part_is h k t x at) ∙ it_found (owns k.shared_pages i) o

    leaves_by : (moved : Option Handle) (g' : SharedPages) (x' : Task) → IsRemoved h.shared_pages x q (slot_of h.shared_pages t c a) moved g' x'
        → 2 + leaving_steps Moving (parts_without h.shared_pages x q) (slot_of h.shared_pages t c a) moved
        ≡ 2 + slot_for (shared_paging h.shared_pages) (length (it (owns k.shared_pages i) o).bytes) + task_leaving_cost (tasks_state_of h) t (it (owns k.shared_pages i) o) moved
    leaves_by None g' x' removed =
        let slot = it_slot (owns k.shared_pages i) o in
        let drop = drops_by k.shared_pages i o in
        let held : steps_to_drop (shared_paging g) (held_by (tasks_state_of h) t) (class_at (shared_paging g) y) (page_of (shared_paging g) a)
        ≡ steps_to_drop (shared_paging g) (held_of g x) (class_at (shared_paging g) y) (page_of (shared_paging g) a) =
        ap (λ m. steps_to_drop (shared_paging g) m (class_at (shared_paging g) y) (page_of (shared_paging g) a)) (part_is h k t x at) in
        omega arith
    leaves_by (Some r) g' x' removed =
        let slot = it_slot (owns k.shared_pages i) o in
        let fill = fill_is g k.shared_pages t x i c o.in_range (some_not_full (owns k.shared_pages i) o (removed.due.0 refl)) in
        let same : fill_steps (on_partly_full (tasks_state_of h) t (class_at (shared_paging g) y)) ≡ fill_steps (live (shared_paging g) (objects_of g x) c % slots_of (shared_paging g) c) =
        ap (λ d. fill_steps (on_partly_full (tasks_state_of h) t d)) (it_class (owns k.shared_pages i) o) ∙ ap fill_steps (rest_same c) in
        omega arith

    -- the steps of a free's parts sum to its exact cost
    pub free_sum : (freed : Freed) (g' : SharedPages) (x' : Task) → IsRemoved h.shared_pages x q (slot_of h.shared_pages t c a) freed.moved g' x' → (s u v : ℕ) → RoseBy s u 3
        → RoseBy u v (3 + leaving_steps Moving (parts_without h.shared_pages x q) (slot_of h.shared_pages t c a) freed.moved) → RoseBy s v (task_free_cost (tasks_state_of h) t q (Ok freed))
    free_sum freed g' x' removed s u v first more =
        let is : task_free_cost (tasks_state_of h) t q (Ok freed) ≡ 6 + slot_for (shared_paging g) (length y.bytes) + task_leaving_cost (tasks_state_of h) t y freed.moved =
        ap (λ (m : Option Placed). elim m [ None ↦ 0 | Some z ↦ 6 + slot_for (shared_paging g) (length z.bytes) + task_leaving_cost (tasks_state_of h) t z freed.moved ]) found in
        let leaves = leaves_by freed.moved g' x' removed in
        rose_by s v (3 + (3 + leaving_steps Moving (parts_without h.shared_pages x q) (slot_of h.shared_pages t c a) freed.moved)) (task_free_cost (tasks_state_of h) t q (Ok freed)) (omega arith)
        (rose_both s u v 3 _ first more)

-- ---- bounds

module _ (s : QuotaState) (t : ℕ) where
  malloc_within : (bytes : ℕ) (r : Result Handle Refusal) → task_malloc_cost s t bytes r ≤ 17
  malloc_within bytes (Err e) = omega arith
  malloc_within bytes (Ok h) =
      let c = class_for (task_paging s.profile) bytes in
      by (nat_eq (on_partly_full s t c) 0) (nat_eq (on_partly_full s t c + 1) (slots_of (task_paging s.profile) c))
    where
      by : (u v : Bool) → 4 + (if u then 11 else if v then 13 else 5) ≤ 17
      by true v = omega arith
      by false true = omega arith
      by false false = omega arith

  leaving_within : (y : Placed) (moved : Option Handle) → task_leaving_cost s t y moved ≤ 14
  leaving_within y None =
      let here = objects_on (task_paging s.profile) (held_by s t) (class_at (task_paging s.profile) y) (page_of (task_paging s.profile) y.place) in
      by (nat_eq here 1) (nat_eq here (slots_of (task_paging s.profile) (class_at (task_paging s.profile) y)))
    where
      by : (u v : Bool) → (if u then 10 else if v then 13 else 5) ≤ 14
      by true v = omega arith
      by false true = omega arith
      by false false = omega arith
  leaving_within y (Some r) = by (nat_eq (on_partly_full s t (class_at (task_paging s.profile) y)) 1)
    where
      by : (u : Bool) → 2 + (if u then 12 else 7) ≤ 14
      by true = omega arith
      by false = omega arith

  pub malloc_most : (bytes : ℕ) (r : Result Handle Refusal) (a b : ℕ) → RoseBy a b (task_malloc_cost s t bytes r) → RoseAtMost a b 17
  malloc_most bytes r a b rose = (let l = rose.bound in let w = malloc_within bytes r in record { kept = rose.kept; bound = omega arith })

  pub free_most : (q : ℕ) (r : Result Freed NotLive) (new : QuotaState) → IsTaskFreeStep s t q r new → (a b : ℕ) → RoseBy a b (task_free_cost s t q r)
      → RoseAtMost a b (task_free_steps r)
  free_most q (Err e) new step a b rose = record { kept = rose.kept; bound = rose.bound }
  free_most q (Ok freed) new step a b rose =
      let y = step.removed.freed in
      let is : task_free_cost s t q (Ok freed) ≡ 6 + slot_for (task_paging s.profile) (length y.bytes) + task_leaving_cost s t y freed.moved =
      ap (λ (m : Option Placed). elim m [ None ↦ 0 | Some z ↦ 6 + slot_for (task_paging s.profile) (length z.bytes) + task_leaving_cost s t z freed.moved ])
      step.removed.found in
      let slot = step.slot in
      let few = leaving_within y freed.moved in
      let l = rose.bound in
      record { kept = rose.kept; bound = omega arith }
