-- For `free_inner`: the freed object counts among those of its class; and the objects of all tasks after the free (`after`), with which the heap is valid and
-- the free is one as contracts show it.
use Rattle.std.proofs.Common.{◌≡◌, ℕ, ◌-◌, ◌<◌, ◌≤◌, length, get_or, set, Option, Some, arith, refl, sym, ◌∙◌, ap, subst}
use Rattle.std.specs.Prelude.{nat_eq, option_map}
use Rattle.std.proofs.lemmas.List.{length-set}
use Rattle.std.specs.FinMap.{get, remove}
use Rattle.cf_base.specs.Settings.{profile_of}
use Rattle.cf_base.specs.declared.results.Freed.{Freed}
use Rattle.cf_base.proofs.Ranges.{one}
use Rattle.cf_base.proofs.Tests.{eq_yes}
use Rattle.cf_base.proofs.Tallies.{counted_out}
use Rattle.cf_model.specs.Steps.{number_of}
use Rattle.page_model.specs.Arrangement.{live}
use Rattle.page_model.specs.Bytes.{bytes_at}
use Rattle.page_model.specs.Held.{Held, objects, places}
use Rattle.page_model.specs.Image.{IsSlotImage}
use Rattle.page_model.specs.Paging.{class_for, classes}
use Rattle.page_model.specs.Steps.{Moves, without}
use Rattle.page_model.proofs.CallerLemmas.{live_taken, storable_without}
use Rattle.page_slots.specs.Occupying.{Occupies, FitPagesShared}
use Rattle.page_slots.proofs.CallerLemmas.{it, it_bytes, it_class, it_found, it_slot}
use Rattle.quota_model.specs.Joined.{joined_places}
use Rattle.quota_model.specs.Parts.{key_of, objects_of_task}
use Rattle.quota_model.specs.Shared.{IsShared, RemovesForTask}
use Rattle.quota_model.proofs.CallerLemmas.{free_quotas, free_shared, others_kept, own_freed, own_without}
use Rattle.page_slots.specs.Owner.{IsObjectAt}
use Rattle.quota_heap.specs.Calls.{KeepsRest}
use Rattle.quota_heap.specs.Layout.{ArePages, IsTask, IsTaskIn, IsValid, tasks_held_in, held_of, objects_of, as_owner, shared_paging, places_of, quotas_of}
use Rattle.quota_heap.specs.Layout.{tables_of, tasks_state_of}
use Rattle.quota_heap.specs.State.{QuotaState}
use Rattle.quota_heap.specs.Steps.{FreesOfTask, with_held}
use Rattle.quota_heap.specs.declared.shared_pages.SharedPages.{SharedPages}
use Rattle.quota_heap.specs.declared.open_tasks.OpenTasks.{OpenTasks}
use Rattle.quota_heap.specs.declared.task.Task.{Task}
use Rattle.quota_heap.proofs.Facts.{few_classes, owns}
use Rattle.quota_heap.proofs.PageAccount.{Accounts}
use Rattle.quota_heap.proofs.PagesAfter.{pages_after}
use Rattle.quota_heap.proofs.Preserved.{Becomes, becomes_kept, becomes_state, stored}
use Rattle.quota_heap.proofs.Tasks.{part_is}

module _ {g : SharedPages} (k : ArePages g) {t : ℕ} {x : Task} (i : IsTask g t x) {q a size c : ℕ} (o : IsObjectAt (as_owner g x) q a size c) where
  pub class_live : c < length x.live
  class_live = (let lt = o.in_range in let few = few_classes g k t x i in let long = i.live_long in omega arith)

  pub live_some : 1 ≤ get_or x.live c 0
  live_some =
      let e = i.counted c o.in_range in
      let l = live_taken (shared_paging g) (objects_of g x) q (bytes_at g.region a) c (it_bytes (owns k i) o) in
      let y : one (nat_eq (class_for (shared_paging g) (length (bytes_at g.region a))) c) ≡ 1 = ap one (eq_yes _ _ (it_class (owns k i) o)) in
      omega arith

-- the objects of task t and of all tasks after the free, if `moved` is the object that moved
module _ (h n : OpenTasks) (k : IsValid h) (t : ℕ) (x x' : Task) (at : IsTaskIn h t x) (tasks : n.tasks.items ≡ set h.tasks.items t x')
    (granted : n.granted ≡ h.granted) (q a size c : ℕ)
    (o : IsObjectAt (as_owner h.shared_pages x) q a size c) (moved : Option ℕ) (mv : Moves (shared_paging h.shared_pages) (held_of h.shared_pages x)
    (it (owns k.shared_pages (k.task t x at)) o) moved) where
  abbrev i : IsTask h.shared_pages t x
  i = k.task t x at

  abbrev pub after : Held
  after = without (tasks_held_in h) (key_of t q) a (option_map (key_of t) moved)

  part : objects_of_task (tasks_held_in h) t ≡ held_of h.shared_pages x
  part = part_is h k t x at

  pub part_found : get (objects_of_task (tasks_held_in h) t) q ≡ Some (it (owns k.shared_pages i) o)
  part_found = ap (λ m. get m q) part ∙ it_found (owns k.shared_pages i) o

  pub part_moves : Moves (shared_paging h.shared_pages) (objects_of_task (tasks_held_in h) t) (it (owns k.shared_pages i) o) moved
  part_moves = subst (λ m. Moves (shared_paging h.shared_pages) m (it (owns k.shared_pages i) o) moved) (sym part) mv

  unfoldable pub removed : RemovesForTask (profile_of h.shared_pages.settings) (tasks_held_in h) t q moved after
  removed = record { freed = it (owns k.shared_pages i) o; found = part_found; moves = part_moves; left = refl }

  own_part : objects_of_task after t ≡ without (held_of h.shared_pages x) q a moved
  own_part = own_without (profile_of h.shared_pages.settings) (tasks_held_in h) t q (it (owns k.shared_pages i) o) part_found moved part_moves
      ∙ ap (λ m. without m q a moved) part

  objects_are : objects (objects_of_task after t) ≡ remove (objects_of h.shared_pages x) q
  objects_are = own_freed (profile_of h.shared_pages.settings) (tasks_held_in h) t q moved after h.shared_pages.settings.page_size k.shared removed
      ∙ ap (λ m. remove (objects m) q) part

  shared_after : IsShared (profile_of h.shared_pages.settings) after
  shared_after = free_shared (profile_of h.shared_pages.settings) (tasks_held_in h) t q moved after h.shared_pages.settings.page_size k.shared removed

  module _ (rest : KeepsRest h.shared_pages x n.shared_pages x') (live_is : x'.live ≡ set x.live c (get_or x.live c 0 - 1)) where
    counts : (d : ℕ) → d < classes (shared_paging h.shared_pages) → get_or x'.live d 0 ≡ live (shared_paging h.shared_pages) (objects (objects_of_task after t)) d
    counts d l =
        let less = live_taken (shared_paging h.shared_pages) (objects_of h.shared_pages x) q (bytes_at h.shared_pages.region a) d
        (it_bytes (owns k.shared_pages i) o) in
        let was = i.counted d l in
        let all : live (shared_paging h.shared_pages) (objects (objects_of_task after t)) d ≡ live (shared_paging h.shared_pages) (remove (objects_of h.shared_pages x) q) d =
        ap (λ v. live (shared_paging h.shared_pages) v d) objects_are in
        let now : get_or x'.live d 0 ≡ get_or (set x.live c (get_or x.live c 0 - 1)) d 0 = ap (λ v. get_or v d 0) live_is in
        let out = counted_out x.live c d (class_live k.shared_pages i o) (live_some k.shared_pages i o) in
        let same : one (nat_eq (class_for (shared_paging h.shared_pages) (length (bytes_at h.shared_pages.region a))) d) ≡ one (nat_eq c d) =
        ap (λ e. one (nat_eq e d)) (it_class (owns k.shared_pages i) o) in
        omega arith

    pub goes : joined_places (places_of (set h.tasks.items t x')) ≡ places after → length n.shared_pages.region ≡ length h.shared_pages.region
        → IsSlotImage (shared_paging h.shared_pages) after n.shared_pages.region → FitPagesShared (shared_paging h.shared_pages) (tables_of n.shared_pages x')
        → Occupies (shared_paging h.shared_pages) (without (held_of h.shared_pages x) q a moved) (tables_of n.shared_pages x') → x'.proxies.limit ≡ x.proxies.limit
        → Accounts (tables_of h.shared_pages x) (tables_of n.shared_pages x') c → Becomes h n t x x' after
    goes at_places long image serve occupied limit accounts =
        let occupied' : Occupies (shared_paging h.shared_pages) (objects_of_task after t) (tables_of n.shared_pages x') =
        subst (λ m. Occupies (shared_paging h.shared_pages) m (tables_of n.shared_pages x')) (sym own_part) occupied in
        record {
          at = at;
          tasks = tasks;
          granted = granted;
          rest = rest;
          places = at_places;
          storable = storable_without (tasks_held_in h) (key_of t q) a (option_map (key_of t) moved) (stored h k);
          long = long;
          image = image;
          shared = shared_after;
          quotas = free_quotas (profile_of h.shared_pages.settings) (tasks_held_in h) t q moved after h.shared_pages.settings.page_size k.shared removed (quotas_of h.tasks.items)
              k.quotas;
          others = λ u ne. others_kept (profile_of h.shared_pages.settings) (tasks_held_in h) t q moved after h.shared_pages.settings.page_size k.shared removed u ne;
          serve = serve;
          occupied = occupied';
          limit = limit;
          live_long = ap length live_is ∙ length-set x.live c (get_or x.live c 0 - 1) ∙ i.live_long;
          counted = counts;
          pages = pages_after h.shared_pages k.shared_pages t x i c o.in_range (objects_of_task after t) (tables_of n.shared_pages x') serve occupied' accounts (shared_after.sound t)
              x'.pages rest.account;
        }

  module _ (b : Becomes h n t x x' after) where
    pub goes_kept : IsValid n
    goes_kept = becomes_kept h n k t x x' after b

    pub goes_freed : (freed : Freed) → freed.slot_words ≡ get_or h.shared_pages.tables.classes.sizes c 0 → number_of freed.moved ≡ moved
        → FreesOfTask (tasks_state_of h) t q freed (tasks_state_of n)
    goes_freed freed words is =
        let whole = becomes_state h n k t x x' after b in
        let held : (tasks_state_of n).held ≡ after = ap (λ (s : QuotaState). s.held) whole in
        let held' : after ≡ (tasks_state_of n).held = sym held in
        record {
          removed = record {
            freed = it (owns k.shared_pages i) o;
            found = part_found;
            moves = subst (Moves (shared_paging h.shared_pages) (objects_of_task (tasks_held_in h) t) (it (owns k.shared_pages i) o)) (sym is) part_moves;
            left = held ∙ ap (λ v. without (tasks_held_in h) (key_of t q) a (option_map (key_of t) v)) (sym is);
          };
          slot = words ∙ it_slot (owns k.shared_pages i) o;
          whole = whole ∙ ap (λ m. with_held (tasks_state_of h) m n.shared_pages.region) held';
        }
