-- For `free` and `free_inner`: what `leave_slot` does to the parts of a task; and after a free of a task that moves no other object, or one that moves an
-- object into the freed slot: the tables still fit the task and the pages, at most the pages of the task became free, the heap is valid, and the free is one as
-- contracts show it. The moved object's header holds its key.
use Rattle.std.proofs.Common.{◌≡◌, ℕ, ◌+◌, ◌*◌, ◌%◌, ◌^◌, ◌<◌, ◌≤◌, List, length, get_or, set, Option, Some, None, arith, refl, sym, ◌∙◌, ap, subst}
use Rattle.std.specs.Prelude.{◌↔◌, IsSome, option_map}
use Rattle.std.proofs.lemmas.Bool.{false≢true}
use Rattle.std.proofs.lemmas.List.{get_or-set_same, length-set, set-set}
use Rattle.std.proofs.lemmas.Option.{slice_get_within}
use Rattle.std.specs.Ordering.{nat_cmp}
use Rattle.std.specs.FinMap.{FinMap, empty, get, insert, remove}
use Rattle.cf_base.specs.Settings.{profile_of}
use Rattle.cf_base.specs.declared.results.Freed.{Freed}
use Rattle.cf_base.specs.declared.results.Handle.{Handle}
use Rattle.cf_base.proofs.MapValues.{map_values-insert, map_values-remove}
use Rattle.cf_base.proofs.Maps.{some_removed}
use Rattle.cf_model.specs.Steps.{number_of}
use Rattle.page_model.specs.Bytes.{bytes_at}
use Rattle.page_model.specs.Held.{Placed, places}
use Rattle.page_model.specs.Image.{Clears, MovesWords, header_word, slot_for}
use Rattle.page_model.specs.Steps.{MayFill, Moves, moved_to, without}
use Rattle.page_slots.specs.Leaving.{Leaves, Parts}
use Rattle.page_slots.specs.Release.{FillsFrom, Vacates}
use Rattle.page_slots.specs.Occupying.{Occupies, FitPagesShared, class_table}
use Rattle.page_slots.specs.Tables.{AreTables, Tables, page_at, slot_at}
use Rattle.page_slots.proofs.CallerLemmas.{filled_occupied, filled_part, vacated_occupied, vacated_part, held, it, it_found, it_class, it_slot}
use Rattle.page_slots.proofs.CallerLemmas.{page_same, slot_same, moving, Fills, must_fill, other_fills, kept_tables, other, other_object}
use Rattle.page_slots.proofs.CallerLemmas.{other_found, other_at, other_known, other_may, other_moved, same_slot}
use Rattle.proxy_table.specs.Proxies.{Proxies, without_place}
use Rattle.quota_model.specs.Joined.{AreNumbers, joined_places, places_at}
use Rattle.quota_model.proofs.CallerLemmas.{joined_insert, joined_remove, moved_image, numbers_set, removed_image}
use Rattle.quota_model.specs.Parts.{key_of, objects_of_task}
use Rattle.quota_model.proofs.CallerLemmas.{found_whole}
use Rattle.quota_heap.specs.Calls.{IsRemoved, parts_of, parts_without, slot_of}
use Rattle.quota_heap.specs.Layout.{ArePages, IsTask, IsTaskIn, IsValid, tasks_held_in, held_of, shared_paging, places_of, tasks_state_of, tables_of, as_owner}
use Rattle.quota_heap.specs.Steps.{FreesOfTask}
use Rattle.quota_heap.specs.declared.shared_pages.SharedPages.{SharedPages}
use Rattle.quota_heap.specs.declared.open_tasks.OpenTasks.{OpenTasks}
use Rattle.quota_heap.specs.declared.task.Task.{Task}
use Rattle.quota_heap.proofs.Facts.{number_small, paging_ok, table_is, tables_ok, owns}
use Rattle.quota_heap.proofs.FreedObject.{goes, goes_freed, goes_kept, removed}
use Rattle.quota_heap.proofs.PageAccount.{fill_accounts, vacate_accounts}
use Rattle.quota_heap.proofs.PagesAfter.{used_after}
use Rattle.quota_heap.proofs.Preserved.{Becomes, places_are}
use Rattle.quota_heap.proofs.Tasks.{length_map, map_set, numbers, part_is, places_here}
use Rattle.page_slots.specs.Owner.{IsObjectAt, MustMoveInto}

-- the tables `new` after the slot of object q of task t is freed: they are still tables for this task and these pages (`FitPagesShared`)
module _ {g : SharedPages} (k : ArePages g) {t : ℕ} {x : Task} (i : IsTask g t x) {q a size c : ℕ} (o : IsObjectAt (as_owner g x) q a size c) (new : Tables)
    (tables : AreTables g.tables.classes new) where
  of_table : AreTables (class_table (shared_paging g)) new
  of_table = subst (λ s. AreTables s new) (sym (table_is g k)) tables

  module _ (v : Vacates (tables_of g x) c (page_at g.tables.classes a) (slot_at g.tables.classes c a) new) where
    pub vacated_serves : FitPagesShared (shared_paging g) new
    vacated_serves = vacated_part (paging_ok g) i.serve i.occupied of_table i.sound q (it_found (owns k i) o) v (it_class (owns k i) o)
        (page_same (owns k i) o) (slot_same (owns k i) o)

    pub vacated_occupies : Occupies (shared_paging g) (remove (held_of g x) q) new
    vacated_occupies = vacated_occupied (paging_ok g) i.serve i.occupied of_table i.sound q (it_found (owns k i) o) v (it_class (owns k i) o)
        (page_same (owns k i) o)
        (slot_same (owns k i) o)

    -- the pool now has at most the free pages of before and the pages of the task
    pub vacated_account : length new.pool.free ≤ x.pages + length g.tables.pool.free
    vacated_account =
        let e = used_after g k t x i c o.in_range (remove (held_of g x) q) new vacated_serves vacated_occupies
        (vacate_accounts g.tables.classes (tables_of g x) (tables_ok g k t x i) c new (page_at g.tables.classes a) (slot_at g.tables.classes c a) v) in
        omega arith

-- the tables `new` after another object moved to the freed slot, and its own slot, at address b, was freed
pub filling : {g : SharedPages} → ArePages g → {t : ℕ} {x : Task} → IsTask g t x → {q a size c b : ℕ} → IsObjectAt (as_owner g x) q a size c → {new : Tables}
    → MustMoveInto (as_owner g x) a c → FillsFrom g.tables.classes (tables_of g x) c b new → AreTables g.tables.classes new
    → Fills (as_owner g x) q a size c b new
filling k i o moves filled tables = record { valid = owns k i; object = o; moves = moves; filled = filled; tables = tables }

module _ {g : SharedPages} (k : ArePages g) {t : ℕ} {x : Task} (i : IsTask g t x) {q a size c b : ℕ} {new : Tables}
    (f : Fills (as_owner g x) q a size c b new) where
  pub filled_serves : FitPagesShared (shared_paging g) new
  filled_serves = filled_part (paging_ok g) i.serve i.occupied (kept_tables f) q (it_found f.valid f.object) (other_fills f)

  pub filled_occupies : Occupies (shared_paging g) (without (held_of g x) q a (Some (other f))) new
  filled_occupies = filled_occupied (paging_ok g) i.serve i.occupied (kept_tables f) q (it_found f.valid f.object) (other_fills f) i.sound (other f)
      (other_found f) (other_at f) (must_fill f)

  pub filled_account : length new.pool.free ≤ x.pages + length g.tables.pool.free
  filled_account =
      let e = used_after g k t x i c f.object.in_range (without (held_of g x) q a (Some (other f))) new filled_serves filled_occupies
      (fill_accounts g.tables.classes (tables_of g x) (tables_ok g k t x i) c new b f.filled) in
      omega arith

-- the header of the object that moves holds its key
pub number_read : {g : SharedPages} (k : ArePages g) {t : ℕ} {x : Task} (i : IsTask g t x) {q a size c : ℕ} → t < 16 → (b : ℕ) (new : Tables)
    (f : Fills (as_owner g x) q a size c b new) → get_or g.region b 0 % 2 ^ 32 ≡ t * 65536 + other f
number_read {g} k {t} {x} i lt b new f =
    let small = number_small g k t x i (other f) b (other_known f) in
    let w : get_or g.region b 0 ≡ header_word (key_of t (other f)) (length (other_object f).bytes) =
    ap (λ j. get_or g.region j 0) (sym (other_at f)) ∙ i.headed (other f) (other_object f) (other_found f) in
    ap (λ v. v % 2 ^ 32) w ∙ low (key_of t (other f)) (length (other_object f).bytes) (omega arith)
  where
    low : (v l : ℕ) → v < 2 ^ 32 → header_word v l % 2 ^ 32 ≡ v
    low v l lt = omega arith

-- what `leave_slot` does to the task's parts, from what it does with the words that were read, once the number is released
pub left_by : (g : SharedPages) (x : Task) {q words : ℕ} {p : Proxies} (t c a : ℕ) (moved : Option Handle) (new : Parts)
    → words ≡ get_or g.tables.classes.sizes c 0 → p ≡ without_place x.proxies q → Leaves (record (parts_of g x) { proxies = p }) (record (slot_of g t c a) { words = words }) moved new
    → Leaves (parts_without g x q) (slot_of g t c a) moved new
left_by g x {q} {words} {p} t c a moved new long gone left =
    subst (λ n. Leaves (parts_without g x q) (record (slot_of g t c a) { words = n }) moved new) long
    (subst (λ o. Leaves (record (parts_of g x) { proxies = o }) (record (slot_of g t c a) { words = words }) moved new) gone left)

-- the pool has at most the free pages of before and the pages of the task, whether or not another object moved
pub left_account : {g : SharedPages} (k : ArePages g) {t : ℕ} {x : Task} (i : IsTask g t x) {q a size c : ℕ} (o : IsObjectAt (as_owner g x) q a size c)
    (moved : Option Handle) → (IsSome moved ↔ MustMoveInto (as_owner g x) a c) → (new : Parts) → Leaves (parts_without g x q) (slot_of g t c a) moved new
    → AreTables g.tables.classes new.tables → length new.tables.pool.free ≤ x.pages + length g.tables.pool.free
left_account k i o None due new left tables = vacated_account k i o new.tables tables left.freed
left_account k i o (Some r) due new left tables = filled_account k i (filling k i o (due.0 refl) left.filled tables)

-- a free of task t from heap h to heap n, which moves no other object
module _ (h n : OpenTasks) (k : IsValid h) (t : ℕ) (x x' : Task) (at : IsTaskIn h t x) (tasks : n.tasks.items ≡ set h.tasks.items t x')
    (granted : n.granted ≡ h.granted) (q a size c : ℕ)
    (o : IsObjectAt (as_owner h.shared_pages x) q a size c) (go : IsRemoved h.shared_pages x q (slot_of h.shared_pages t c a) None n.shared_pages x') where
  abbrev i : IsTask h.shared_pages t x
  i = k.task t x at

  stays : Moves (shared_paging h.shared_pages) (held_of h.shared_pages x) (it (owns k.shared_pages i) o) None
  stays m = false≢true (go.due.1 (moving (owns k.shared_pages i) o m))

  few : t < length (places_of h.tasks.items)
  few = (let e = length_map (λ (y : Task). y.proxies.places) h.tasks.items in let w = slice_get_within h.tasks.items t x at in omega arith)

  small : q < 65536
  small = number_small h.shared_pages k.shared_pages t x i q a o.known

  becomes : Becomes h n t x x' (without (tasks_held_in h) (key_of t q) a (option_map (key_of t) None))
  unfolding removed stays
  becomes = goes h n k t x x' at tasks granted q a size c o None stays go.rest go.live
      (ap joined_places (map_set (λ (y : Task). y.proxies.places) h.tasks.items t x'
      ∙ ap (λ p. set (places_of h.tasks.items) t p) (ap (λ (p : Proxies). p.places) go.left.proxies ∙ ap (λ m. remove m q) (sym (places_here h k t x at))))
      ∙ joined_remove (places_of h.tasks.items) (numbers h k) t few q small
      ∙ ap (λ m. remove m (key_of t q)) (places_are h k)
      ∙ sym (map_values-remove (λ (y : Placed). y.place) (tasks_held_in h) (key_of t q)))
      go.left.long
      (removed_image (profile_of h.shared_pages.settings) (tasks_held_in h) k.shared h.shared_pages.settings.page_size h.shared_pages.region k.image n.shared_pages.region t q
      (without (tasks_held_in h) (key_of t q) a None) (removed h n k t x x' at tasks granted q a size c o None stays)
      (subst (λ s. Clears h.shared_pages.region n.shared_pages.region (record { from = a; count = s })) (it_slot (owns k.shared_pages i) o) go.left.words))
      (vacated_serves k.shared_pages i o (tables_of n.shared_pages x') go.rest.tables go.left.freed)
      (vacated_occupies k.shared_pages i o (tables_of n.shared_pages x') go.rest.tables go.left.freed)
      (ap (λ (p : Proxies). p.limit) go.left.proxies)
      (vacate_accounts h.shared_pages.tables.classes (tables_of h.shared_pages x) (tables_ok h.shared_pages k.shared_pages t x i) c (tables_of n.shared_pages x') (page_at h.shared_pages.tables.classes a)
      (slot_at h.shared_pages.tables.classes c a) go.left.freed)

  pub alone_kept : IsValid n
  alone_kept = goes_kept h n k t x x' at tasks granted q a size c o None stays becomes

  pub alone_freed : (freed : Freed) → freed.slot_words ≡ get_or h.shared_pages.tables.classes.sizes c 0 → number_of freed.moved ≡ None
      → FreesOfTask (tasks_state_of h) t q freed (tasks_state_of n)
  alone_freed freed words is = goes_freed h n k t x x' at tasks granted q a size c o None stays becomes freed words is

-- a free of task t from heap h to heap n, which moves the object of handle v to the freed slot
module _ (h n : OpenTasks) (k : IsValid h) (t : ℕ) (x x' : Task) (at : IsTaskIn h t x) (tasks : n.tasks.items ≡ set h.tasks.items t x')
    (granted : n.granted ≡ h.granted) (q a size c : ℕ) (v : Handle)
    (o : IsObjectAt (as_owner h.shared_pages x) q a size c) (fi : IsRemoved h.shared_pages x q (slot_of h.shared_pages t c a) (Some v) n.shared_pages x') where
  abbrev i' : IsTask h.shared_pages t x
  i' = k.task t x at

  abbrev new : Tables
  new = tables_of n.shared_pages x'

  abbrev r : ℕ
  r = v.0

  abbrev y : Placed
  y = record { place = fi.left.from; bytes = bytes_at h.shared_pages.region fi.left.from }

  abbrev f : Fills (as_owner h.shared_pages x) q a size c fi.left.from new
  f = filling k.shared_pages i' o (fi.due.0 refl) fi.left.filled fi.rest.tables

  few' : t < length (places_of h.tasks.items)
  few' = (let e = length_map (λ (y : Task). y.proxies.places) h.tasks.items in let w = slice_get_within h.tasks.items t x at in omega arith)

  sixteen : t < 16
  sixteen = (let w = slice_get_within h.tasks.items t x at in let many = k.many in omega arith)

  is : r ≡ other f
  is = other_moved (owns k.shared_pages i') o (t * 65536) (number_read k.shared_pages i' sixteen) fi.left f

  known : get x.proxies.places r ≡ Some fi.left.from
  known = ap (get x.proxies.places) is ∙ other_known f

  there : get (held_of h.shared_pages x) r ≡ Some y
  there = held (owns k.shared_pages i') r fi.left.from known

  same : y ≡ other_object f
  same = (let e : Some y ≡ Some (other_object f) = sym there ∙ ap (get (held_of h.shared_pages x)) is ∙ other_found f in cc)

  mover : Moves (shared_paging h.shared_pages) (held_of h.shared_pages x) (it (owns k.shared_pages i') o) (Some r)
  mover = (
    must_fill f,
    (y, there, subst (MayFill (shared_paging h.shared_pages) (held_of h.shared_pages x) (it (owns k.shared_pages i') o)) (sym same) (other_may f)),
  )

  small' : q < 65536
  small' = number_small h.shared_pages k.shared_pages t x i' q a o.known

  other_small : r < 65536
  other_small = number_small h.shared_pages k.shared_pages t x i' r fi.left.from known

  part_there : get (objects_of_task (tasks_held_in h) t) r ≡ Some y
  part_there = ap (λ m. get m r) (part_is h k t x at) ∙ there

  whole_there : get (tasks_held_in h) (key_of t r) ≡ Some y
  whole_there = found_whole (tasks_held_in h) t r y part_there

  abbrev all : List (FinMap nat_cmp ℕ)
  all = places_of h.tasks.items

  abbrev gone : List (FinMap nat_cmp ℕ)
  gone = set all t (remove (places_at all t) q)

  -- the addresses of all tasks' objects, by key, after the free and the move
  places_moved : joined_places (places_of (set h.tasks.items t x')) ≡ places (without (tasks_held_in h) (key_of t q) a (Some (key_of t r)))
  places_moved =
      let at_gone : places_at gone t ≡ remove (places_at all t) q = get_or-set_same all t (remove (places_at all t) q) empty few' in
      let gone_numbers : AreNumbers gone = numbers_set all (numbers h k) t few' (remove (places_at all t) q) (λ s b f. numbers h k t s b
      (some_removed (places_at all t) q s b f).1) in
      let gone_few : t < length gone = (let e = length-set all t (remove (places_at all t) q) in let l = few' in omega arith) in
      let now : insert (remove x.proxies.places q) r a ≡ insert (places_at gone t) r a =
      ap (λ m. insert m r a) (ap (λ m. remove m q) (sym (places_here h k t x at)) ∙ sym at_gone) in
      ap joined_places (map_set (λ (z : Task). z.proxies.places) h.tasks.items t x'
      ∙ ap (λ p. set all t p) (ap (λ (p : Proxies). p.places) fi.left.proxies ∙ now)
      ∙ sym (set-set all t (remove (places_at all t) q) (insert (places_at gone t) r a)))
      ∙ joined_insert gone gone_numbers t gone_few r other_small a
      ∙ ap (λ m. insert m (key_of t r) a) (joined_remove all (numbers h k) t few' q small' ∙ ap (λ m. remove m (key_of t q)) (places_are h k)
      ∙ sym (map_values-remove (λ (z : Placed). z.place) (tasks_held_in h) (key_of t q)))
      ∙ sym (map_values-insert (λ (z : Placed). z.place) (remove (tasks_held_in h) (key_of t q)) (key_of t r) (record { place = a; bytes = y.bytes }))
      ∙ ap (λ f. places (moved_to (remove (tasks_held_in h) (key_of t q)) (key_of t r) f a)) (sym whole_there)

  becomes' : Becomes h n t x x' (without (tasks_held_in h) (key_of t q) a (option_map (key_of t) (Some r)))
  unfolding removed mover
  becomes' = goes h n k t x x' at tasks granted q a size c o (Some r) mover fi.rest fi.live
      places_moved
      fi.left.moves.long
      (moved_image (profile_of h.shared_pages.settings) (tasks_held_in h) k.shared h.shared_pages.settings.page_size h.shared_pages.region k.image n.shared_pages.region t q r y
      (without (tasks_held_in h) (key_of t q) a (Some (key_of t r))) (removed h n k t x x' at tasks granted q a size c o (Some r) mover) part_there
      (subst (λ s. MovesWords h.shared_pages.region n.shared_pages.region (record { from = fi.left.from; count = s }) a)
      (same_slot f ∙ ap (λ (z : Placed). slot_for (shared_paging h.shared_pages) (length z.bytes)) (sym same)) fi.left.moves.words))
      (filled_serves k.shared_pages i' f)
      (subst (λ j. Occupies (shared_paging h.shared_pages) (without (held_of h.shared_pages x) q a (Some j)) new) (sym is) (filled_occupies k.shared_pages i' f))
      (ap (λ (p : Proxies). p.limit) fi.left.proxies)
      (fill_accounts h.shared_pages.tables.classes (tables_of h.shared_pages x) (tables_ok h.shared_pages k.shared_pages t x i') c new fi.left.from fi.left.filled)

  pub filled_kept : IsValid n
  filled_kept = goes_kept h n k t x x' at tasks granted q a size c o (Some r) mover becomes'

  pub filled_freed : (freed : Freed) → freed.slot_words ≡ get_or h.shared_pages.tables.classes.sizes c 0 → number_of freed.moved ≡ Some r
      → FreesOfTask (tasks_state_of h) t q freed (tasks_state_of n)
  filled_freed freed words is = goes_freed h n k t x x' at tasks granted q a size c o (Some r) mover becomes' freed words is

-- a free of task t from heap h to heap n, whether or not another object moved
module _ (h n : OpenTasks) (k : IsValid h) (t : ℕ) (x x' : Task) (at : IsTaskIn h t x) (tasks : n.tasks.items ≡ set h.tasks.items t x')
    (granted : n.granted ≡ h.granted) (q a size c : ℕ) (o : IsObjectAt (as_owner h.shared_pages x) q a size c) where
  pub removed_kept : (moved : Option Handle) → IsRemoved h.shared_pages x q (slot_of h.shared_pages t c a) moved n.shared_pages x' → IsValid n
  removed_kept None go = alone_kept h n k t x x' at tasks granted q a size c o go
  removed_kept (Some r) go = filled_kept h n k t x x' at tasks granted q a size c r o go

  pub removed_freed : (freed : Freed) → IsRemoved h.shared_pages x q (slot_of h.shared_pages t c a) freed.moved n.shared_pages x'
      → freed.slot_words ≡ get_or h.shared_pages.tables.classes.sizes c 0 → FreesOfTask (tasks_state_of h) t q freed (tasks_state_of n)
  removed_freed freed go words = by freed.moved refl go
    where
      by : (moved : Option Handle) → freed.moved ≡ moved → IsRemoved h.shared_pages x q (slot_of h.shared_pages t c a) moved n.shared_pages x'
          → FreesOfTask (tasks_state_of h) t q freed (tasks_state_of n)
      by None is go = alone_freed h n k t x x' at tasks granted q a size c o go freed words (ap number_of is)
      by (Some r) is go = filled_freed h n k t x x' at tasks granted q a size c r o go freed words (ap number_of is)
