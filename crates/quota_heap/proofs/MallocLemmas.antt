-- For `malloc` and `malloc_inner`: a malloc of a task takes a slot on a page that no other task uses, adds an object of zeros, changes no other task's objects,
-- and leaves the heap valid.
use Rattle.std.proofs.Common.{◌≡◌, ◌≢◌, ℕ, ◌+◌, ◌<◌, ◌≤◌, length, get_or, set, replicate, Some, None, arith, refl, sym, ◌∙◌, ap, subst, inl, inr}
use Rattle.std.specs.Prelude.{nat_eq}
use Rattle.std.proofs.lemmas.Bool.{cases_eq}
use Rattle.std.proofs.lemmas.List.{length-set}
use Rattle.std.specs.FinMap.{get, insert}
use Rattle.cf_base.specs.Settings.{profile_of}
use Rattle.cf_base.proofs.Ranges.{one}
use Rattle.class_lists.specs.declared.Which.{Which}
use Rattle.class_lists.specs.declared.Which.TheVariants.{Full, NotFull}
use Rattle.class_lists.specs.PageLists.{pages_in}
use Rattle.std.specs.List.{Contains}
use Rattle.page_model.specs.Arrangement.{class_at, live}
use Rattle.page_model.specs.Held.{Held, Placed, objects}
use Rattle.page_model.specs.Image.{IsSlotImage, header_word}
use Rattle.page_model.specs.Paging.{class_for, classes, page_of}
use Rattle.page_model.specs.Steps.{IsFreePlace, Request, zeros_at}
use Rattle.page_model.proofs.CallerLemmas.{bytes_missing, live_added, malloc_objects, malloc_places, storable_added, zeros_are_bytes, class_of_zeros}
use Rattle.page_slots.specs.Occupying.{Occupies, FitPagesShared, class_table}
use Rattle.page_slots.specs.Tables.{AreTables, IsForeign, IsOf, Tables}
use Rattle.page_slots.specs.Take.{TakesAt}
use Rattle.page_slots.proofs.CallerLemmas.{taken_is_free, taken_occupied, taken_part, no_place}
use Rattle.proxy_table.specs.Proxies.{Proxies}
use Rattle.quota_model.specs.Joined.{joined_places}
use Rattle.quota_model.proofs.CallerLemmas.{image_of_malloc, joined_insert}
use Rattle.quota_model.specs.Parts.{key_of, number_in_task, objects_of_task, task_of}
use Rattle.quota_model.specs.Shared.{PlacesForTask}
use Rattle.quota_model.proofs.CallerLemmas.{found_part, others_stay, part_inserted, quotas_stay, stays_shared}
use Rattle.quota_heap.specs.Calls.{IsAdded}
use Rattle.quota_heap.specs.Layout.{ArePages, IsTask, IsTaskIn, IsValid, held_of, objects_of, places_of, quotas_of, shared_paging, tasks_held_in, tasks_state_of}
use Rattle.quota_heap.specs.Layout.{tables_of, as_owner}
use Rattle.quota_heap.specs.Steps.{AddsObjectOfTask}
use Rattle.quota_heap.specs.declared.shared_pages.SharedPages.{SharedPages}
use Rattle.quota_heap.specs.declared.open_tasks.OpenTasks.{OpenTasks}
use Rattle.quota_heap.specs.declared.task.Task.{Task}
use Rattle.quota_heap.proofs.Facts.{few_classes, paging_ok, table_is}
use Rattle.quota_heap.proofs.PageAccount.{take_accounts}
use Rattle.quota_heap.proofs.PagesAfter.{pages_after}
use Rattle.quota_heap.proofs.Preserved.{Becomes, becomes_kept, becomes_state, places_are, stored}
use Rattle.quota_heap.proofs.Refusals.{reason}
use Rattle.quota_heap.proofs.Tasks.{length_map, map_set, numbers, part_is, places_here, task_below}
use Rattle.std.proofs.lemmas.Option.{slice_get_within}
use Rattle.cf_base.proofs.Tallies.{counted_in}
use Rattle.page_model.proofs.CallerLemmas.{slot_inside}
use Rattle.quota_heap.proofs.Facts.{tables_ok}
use Rattle.cf_base.proofs.Maps.{get_inserted}
use Rattle.std.specs.Prelude.{Option, slice_get}
use Rattle.std.proofs.lemmas.Option.{slice_get-get_or}
use Rattle.quota_model.specs.Shared.{IsShared}
use Rattle.quota_heap.specs.State.{QuotaState}
use Rattle.quota_heap.specs.Steps.{with_held}

-- The tables `new` after task t took the slot of class c at address a: they are still tables for this task and these pages (`FitPagesShared`).
module _ (g : SharedPages) (k : ArePages g) (t : ℕ) (x : Task) (i : IsTask g t x) (c : ℕ) (lt : c < classes (shared_paging g)) (a : ℕ) (new : Tables)
    (taken : TakesAt g.tables.classes (tables_of g x) c a new) (tables : AreTables g.tables.classes new) where
  abbrev at_table : TakesAt (class_table (shared_paging g)) (tables_of g x) c a new
  at_table = subst (λ s. TakesAt s (tables_of g x) c a new) (sym (table_is g k)) taken

  abbrev of_table : AreTables (class_table (shared_paging g)) new
  of_table = subst (λ s. AreTables s new) (sym (table_is g k)) tables

  pub taken_free : (n : ℕ) → class_for (shared_paging g) n ≡ c → IsFreePlace (shared_paging g) (held_of g x) n a
  taken_free n class = taken_is_free (paging_ok g) i.serve i.occupied of_table lt at_table n class

  pub taken_serves : FitPagesShared (shared_paging g) new
  taken_serves = taken_part (paging_ok g) i.serve i.occupied of_table lt at_table

  pub taken_occupies : (q : ℕ) (y : Placed) → get (held_of g x) q ≡ None → y.place ≡ a → class_at (shared_paging g) y ≡ c
      → Occupies (shared_paging g) (insert (held_of g x) q y) new
  taken_occupies q y none at class = taken_occupied (paging_ok g) i.serve i.occupied of_table lt at_table q y none at class

  -- the slot's address is in the region
  pub taken_inside : (n : ℕ) → class_for (shared_paging g) n ≡ c → a < length g.region
  taken_inside n class =
      let free = taken_free n class in
      let inside = slot_inside (shared_paging g) (class_for (shared_paging g) n) a free.slot in
      let least = (paging_ok g).sized.least (class_for (shared_paging g) n) free.slot.class in
      let long = k.words_long in
      omega arith

module _ (h n : OpenTasks) (k : IsValid h) (t : ℕ) (x x' : Task) (at : IsTaskIn h t x) (tasks : n.tasks.items ≡ set h.tasks.items t x')
    (granted : n.granted ≡ h.granted) (c bytes q : ℕ)
    (class : class_for (shared_paging h.shared_pages) bytes ≡ c) (lt : c < classes (shared_paging h.shared_pages)) (co : IsAdded h.shared_pages x t c bytes q n.shared_pages x')
    (none : None ≡ reason h k t x at bytes) where
  abbrev i : IsTask h.shared_pages t x
  i = k.task t x at

  abbrev asked : Request
  asked = record { number = q; length = bytes }

  abbrev pub after : Held
  after = insert (tasks_held_in h) (key_of t q) (zeros_at co.place bytes)

  few : h.shared_pages.settings.proxies ≤ 65536
  few = h.shared_pages.settings.few_proxies

  below : q < h.shared_pages.settings.proxies
  below = (let b = co.below in let e = i.numbers in omega arith)

  small : q < 65536
  small = (let b = below in let f = few in omega arith)

  unused : get (held_of h.shared_pages x) q ≡ None
  unused = no_place (as_owner h.shared_pages x) q co.unused

  occupied_own : Occupies (shared_paging h.shared_pages) (insert (held_of h.shared_pages x) q (zeros_at co.place bytes)) (tables_of n.shared_pages x')
  occupied_own = taken_occupies h.shared_pages k.shared_pages t x i c lt co.place (tables_of n.shared_pages x') co.taken co.rest.tables q (zeros_at co.place bytes) unused refl
      (class_of_zeros (shared_paging h.shared_pages) co.place bytes c class)

  -- the page of the new object is in a list of the task
  listed : IsOf (tables_of n.shared_pages x') c (page_of (shared_paging h.shared_pages) co.place)
  listed = subst (λ d. IsOf (tables_of n.shared_pages x') d (page_of (shared_paging h.shared_pages) co.place)) (class_of_zeros (shared_paging h.shared_pages) co.place bytes c class)
      (occupied_own.stands q (zeros_at co.place bytes) (get_inserted (held_of h.shared_pages x) q (zeros_at co.place bytes))).of

  not_elsewhere : IsForeign (tables_of h.shared_pages x) (page_of (shared_paging h.shared_pages) co.place) → ⊥
  not_elsewhere e =
      let now = co.rest.elsewhere.still (page_of (shared_paging h.shared_pages) co.place) e in
      elim listed [ inl f ↦ now.unlisted c Full f | inr f ↦ now.unlisted c NotFull f ]

  -- no other task has objects on this page
  own_page : (key : ℕ) (y : Placed) → get (tasks_held_in h) key ≡ Some y → page_of (shared_paging h.shared_pages) y.place ≡ page_of (shared_paging h.shared_pages) co.place
      → task_of key ≡ t
  own_page key y found page = elim (cases_eq (task_of key) t) [
    | inl is ↦ is
    | inr ne ↦ absurd (by (slice_get h.tasks.items (task_of key)) refl ne)
  ]
    where
      by : (o : Option Task) → slice_get h.tasks.items (task_of key) ≡ o → task_of key ≢ t → ⊥
      by None e ne = absurd (
          let lt16 = k.shared.tasks key y found in
          let many = k.many in
          let some = slice_get-get_or h.tasks.items (task_of key) x (omega arith) in
          let z : None ≡ Some (get_or h.tasks.items (task_of key) x) = sym e ∙ some in cc)
      by (Some z) e ne =
          let there : get (held_of h.shared_pages z) (number_in_task key) ≡ Some y =
          sym (ap (λ m. get m (number_in_task key)) (part_is h k (task_of key) z e)) ∙ found_part (tasks_held_in h) key y found in
          let of = ((k.task (task_of key) z e).occupied.stands (number_in_task key) y there).of in
          let away = λ (d : ℕ) (w : Which) (l : Contains (pages_in z.lists d w) (page_of (shared_paging h.shared_pages) y.place)).
          k.others t (task_of key) x z at e ne d (page_of (shared_paging h.shared_pages) y.place) w l in
          elim of [
            | inl l ↦ not_elsewhere (subst (IsForeign (tables_of h.shared_pages x)) page (away (class_at (shared_paging h.shared_pages) y) Full l))
            | inr l ↦ not_elsewhere (subst (IsForeign (tables_of h.shared_pages x)) page (away (class_at (shared_paging h.shared_pages) y) NotFull l))
          ]

  part : objects_of_task (tasks_held_in h) t ≡ held_of h.shared_pages x
  part = part_is h k t x at

  pub placed : PlacesForTask (profile_of h.shared_pages.settings) (tasks_held_in h) t (record { number = q; length = bytes }) after
  placed = record {
    place = co.place;
    in_range = below;
    unused = ap (λ m. get m q) part ∙ unused;
    free = subst (λ m. IsFreePlace (shared_paging h.shared_pages) m bytes co.place) (sym part)
        (taken_free h.shared_pages k.shared_pages t x i c lt co.place (tables_of n.shared_pages x') co.taken co.rest.tables bytes class);
    own = own_page;
    placed = refl;
  }

  sixteen : t < 16
  sixteen = task_below h k t x at

  own_part : objects_of_task after t ≡ insert (held_of h.shared_pages x) q (zeros_at co.place bytes)
  own_part = part_inserted (tasks_held_in h) t q small (zeros_at co.place bytes) ∙ ap (λ m. insert m q (zeros_at co.place bytes)) part

  objects_are : objects (objects_of_task after t) ≡ insert (objects_of h.shared_pages x) q (replicate bytes 0)
  objects_are = ap objects own_part ∙ malloc_objects (held_of h.shared_pages x) q co.place bytes

  counts : (d : ℕ) → d < classes (shared_paging h.shared_pages) → get_or x'.live d 0 ≡ live (shared_paging h.shared_pages) (objects (objects_of_task after t)) d
  counts d l =
      let add = live_added (shared_paging h.shared_pages) (objects_of h.shared_pages x) q (replicate bytes 0) d (bytes_missing (held_of h.shared_pages x) q unused) in
      let was = i.counted d l in
      let all : live (shared_paging h.shared_pages) (objects (objects_of_task after t)) d ≡ live (shared_paging h.shared_pages) (insert (objects_of h.shared_pages x) q (replicate bytes 0)) d =
      ap (λ o. live (shared_paging h.shared_pages) o d) objects_are in
      let now : get_or x'.live d 0 ≡ get_or (set x.live c (get_or x.live c 0 + 1)) d 0 = ap (λ v. get_or v d 0) co.live in
      let inside : c < length x.live = (let f = few_classes h.shared_pages k.shared_pages t x i in let long = i.live_long in omega arith) in
      let more = counted_in x.live c d inside in
      let same : one (nat_eq (class_for (shared_paging h.shared_pages) (length (replicate {A = ℕ} bytes 0))) d) ≡ one (nat_eq c d) =
      ap (λ e. one (nat_eq e d)) (class_of_zeros (shared_paging h.shared_pages) co.place bytes c class) in
      omega arith

  shared_after : IsShared (profile_of h.shared_pages.settings) after
  shared_after = stays_shared (profile_of h.shared_pages.settings) (tasks_held_in h) t asked after few placed h.shared_pages.settings.page_size sixteen k.shared

  becomes : Becomes h n t x x' after
  unfolding placed
  becomes = record {
    at = at;
    tasks = tasks;
    granted = granted;
    rest = co.rest;
    places =
        let l : t < length (places_of h.tasks.items) = (
        let e = length_map (λ (y : Task). y.proxies.places) h.tasks.items in let w = slice_get_within h.tasks.items t x at in omega arith) in
        ap joined_places (map_set (λ (y : Task). y.proxies.places) h.tasks.items t x'
        ∙ ap (λ p. set (places_of h.tasks.items) t p) (ap (λ (p : Proxies). p.places) co.proxies
        ∙ ap (λ m. insert m q co.place) (sym (places_here h k t x at))))
        ∙ joined_insert (places_of h.tasks.items) (numbers h k) t l q small co.place
        ∙ ap (λ m. insert m (key_of t q) co.place) (places_are h k)
        ∙ sym (malloc_places (tasks_held_in h) (key_of t q) co.place bytes);
    storable = storable_added (tasks_held_in h) (key_of t q) (zeros_at co.place bytes) (stored h k) (let s = small in let l = sixteen in omega arith)
        (zeros_are_bytes bytes);
    long = ap length co.words ∙ length-set h.shared_pages.region co.place (header_word (key_of t q) bytes);
    image = subst (λ w. IsSlotImage (shared_paging h.shared_pages) after w) (sym co.words)
        (image_of_malloc (profile_of h.shared_pages.settings) (tasks_held_in h) k.shared h.shared_pages.settings.page_size h.shared_pages.region k.image t asked after few
        sixteen placed
        k.shared_pages.words_long);
    shared = shared_after;
    quotas = quotas_stay (profile_of h.shared_pages.settings) (tasks_held_in h) t asked after few placed (quotas_of h.tasks.items) k.quotas (sym none);
    others = λ u ne. others_stay (profile_of h.shared_pages.settings) (tasks_held_in h) t asked after few placed u ne;
    serve = taken_serves h.shared_pages k.shared_pages t x i c lt co.place (tables_of n.shared_pages x') co.taken co.rest.tables;
    occupied = subst (λ m. Occupies (shared_paging h.shared_pages) m (tables_of n.shared_pages x')) (sym own_part) occupied_own;
    limit = ap (λ (p : Proxies). p.limit) co.proxies;
    live_long = ap length co.live ∙ length-set x.live c (get_or x.live c 0 + 1) ∙ i.live_long;
    counted = counts;
    pages = pages_after h.shared_pages k.shared_pages t x i c lt (objects_of_task after t) (tables_of n.shared_pages x')
        (taken_serves h.shared_pages k.shared_pages t x i c lt co.place (tables_of n.shared_pages x') co.taken co.rest.tables)
        (subst (λ m. Occupies (shared_paging h.shared_pages) m (tables_of n.shared_pages x')) (sym own_part) occupied_own)
        (take_accounts h.shared_pages.tables.classes (tables_of h.shared_pages x) (tables_ok h.shared_pages k.shared_pages t x i) c (tables_of n.shared_pages x')
        co.place co.taken)
        (shared_after.sound t) x'.pages co.rest.account;
  }

  pub comes_kept : IsValid n
  comes_kept = becomes_kept h n k t x x' after becomes

  pub comes_given : AddsObjectOfTask (tasks_state_of h) t (record { number = q; length = bytes }) (tasks_state_of n)
  comes_given =
      let whole = becomes_state h n k t x x' after becomes in
      let held : (tasks_state_of n).held ≡ after = ap (λ (s : QuotaState). s.held) whole in
      record {
        granted = sym none;
        placed = subst (PlacesForTask (profile_of h.shared_pages.settings) (tasks_held_in h) t (record { number = q; length = bytes })) (sym held) placed;
        whole = whole ∙ ap (λ m. with_held (tasks_state_of h) m n.shared_pages.region) (sym held);
      }
