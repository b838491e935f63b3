-- For `new`: a heap of tasks that was just opened is valid, and contracts show it with no objects, all quotas 0 and all words 0.
use Rattle.std.proofs.Common.{◌≡◌, ℕ, zero, suc, ◌+◌, ◌*◌, ◌<◌, ◌∷◌, length, get_or, map, replicate, Some, None, arith, refl}
use Rattle.std.proofs.Common.{sym, ◌∙◌, ap, subst}
use Rattle.std.specs.Prelude.{slice_get, sum, sum_by}
use Rattle.std.specs.List.{Contains, range_with_len}
use Rattle.std.proofs.lemmas.List.{get_or-replicate, length-replicate}
use Rattle.std.proofs.lemmas.List.Sums.{sum_by-cons}
use Rattle.std.specs.Ordering.{nat_cmp}
use Rattle.std.specs.FinMap.{empty, get, get-empty}
use Rattle.cf_base.proofs.Members.{contains_nil}
use Rattle.cf_base.specs.Classes.{sizes}
use Rattle.cf_base.specs.Settings.{profile_of}
use Rattle.cf_base.specs.declared.kind.Layout.TheVariants.{Words}
use Rattle.cf_base.specs.declared.settings.Settings.{Settings}
use Rattle.cf_base.proofs.Rising.{are_sizes}
use Rattle.cf_base.proofs.Maps.{equal_maps}
use Rattle.class_lists.specs.PageLists.{empty_lists, pages_in}
use Rattle.page_model.specs.Arrangement.{IsSound, live, pages_needed}
use Rattle.page_model.specs.Bytes.{held_at}
use Rattle.page_model.specs.Held.{objects}
use Rattle.page_model.specs.Image.{IsSlotImage, slot_for}
use Rattle.page_model.proofs.CallerLemmas.{image_empty, sound_empty, nothing_held, no_objects, none_live}
use Rattle.page_pool.specs.Pool.{Pool}
use Rattle.page_slots.specs.Occupying.{Occupies, FitPagesShared}
use Rattle.page_slots.specs.PageTables.{AreFirst, tables_with}
use Rattle.page_slots.proofs.CallerLemmas.{first_occupied, first_table, new_serve, no_pages}
use Rattle.proxy_table.specs.Proxies.{AreBelowLimit, no_proxies}
use Rattle.quota_model.specs.Joined.{AreNumbers, joined_places, places_at}
use Rattle.quota_model.proofs.CallerLemmas.{get_by_key}
use Rattle.quota_model.specs.Parts.{number_in_task, objects_of_task, task_of}
use Rattle.quota_model.specs.Shared.{AreQuotas, IsShared}
use Rattle.quota_model.proofs.CallerLemmas.{first_quotas, first_shared, no_part, sum_zeros_list}
use Rattle.size_classes.specs.Table.{ClassTable, table_of}
use Rattle.quota_heap.specs.Layout.{AreFirstPages, ArePages, IsTask, IsTaskIn, IsValid, first_task, held_of, pages_of, places_of, shared_paging, tasks_held_in}
use Rattle.quota_heap.specs.Layout.{quotas_of, tasks_state_of}
use Rattle.quota_heap.specs.State.{empty_state}
use Rattle.quota_heap.specs.declared.open_tasks.OpenTasks.{OpenTasks}
use Rattle.quota_heap.specs.declared.task.Task.{Task}

replicated : {X : Type 0} (n : ℕ) (y : X) (i : ℕ) (x : X) → slice_get (replicate n y) i ≡ Some x → y ≡ x
replicated zero y i x e = absurd (let z : Some x ≡ None = sym e in cc)
replicated (suc n) y zero x e = (let z : Some y ≡ Some x = e in cc)
replicated (suc n) y (suc i) x e = replicated n y i x e

sum_of_zeros : {X : Type 0} (f : X → ℕ) (n : ℕ) (y : X) → f y ≡ 0 → sum_by f (replicate n y) ≡ 0
sum_of_zeros f zero y e = refl
sum_of_zeros f (suc n) y e = (let a = sum_by-cons f y (replicate n y) in let rest = sum_of_zeros f n y e in omega arith)

map_replicate : {X Y : Type 0} (f : X → Y) (n : ℕ) (y : X) → map f (replicate n y) ≡ replicate n (f y)
map_replicate f zero y = refl
map_replicate f (suc n) y = ap (λ ys. f y ∷ ys) (map_replicate f n y)

range_long : (a n : ℕ) → length (range_with_len a n) ≡ n
range_long a zero = refl
range_long a (suc n) = ap suc (range_long (a + 1) n)

-- if no task has an object, no number of a task has an address
none_numbered : (n : ℕ) → AreNumbers (replicate n (empty {X = ℕ} {R = nat_cmp}))
none_numbered n t h a f = absurd (
    let e : places_at (replicate n (empty {X = ℕ} {R = nat_cmp})) t ≡ empty = none_at n t in
    let z : Some a ≡ None = sym f ∙ ap (λ m. get m h) e ∙ get-empty nat_cmp h in cc)
  where
    none_at : (n t : ℕ) → places_at (replicate n (empty {X = ℕ} {R = nat_cmp})) t ≡ empty
    none_at zero t = refl
    none_at (suc n) zero = refl
    none_at (suc n) (suc t) = none_at n t

none_joined : (n : ℕ) → joined_places (replicate n empty) ≡ empty
none_joined n = equal_maps _ _ (λ key. get_by_key (replicate n empty) (none_numbered n) key ∙ ap (λ m. get m (number_in_task key)) (none_at n (task_of key))
    ∙ get-empty nat_cmp (number_in_task key) ∙ sym (get-empty nat_cmp key))
  where
    none_at : (n t : ℕ) → places_at (replicate n (empty {X = ℕ} {R = nat_cmp})) t ≡ empty
    none_at zero t = refl
    none_at (suc n) zero = refl
    none_at (suc n) (suc t) = none_at n t

module _ (s : Settings) (h : OpenTasks) (f : AreFirstPages s h.shared_pages) (n : ℕ) (many : n ≡ length h.shared_pages.tables.classes.sizes)
    (tasks : h.tasks.items ≡ replicate 16 (first_task n s.pages s.proxies)) (none : h.granted ≡ 0)
    (handles : AreBelowLimit (no_proxies s.proxies)) where
  first : Task
  first = first_task n s.pages s.proxies

  pages_is : h.shared_pages.settings.pages ≡ s.pages
  pages_is = ap (λ (t : Settings). t.pages) f.settings

  shared_pages : ArePages h.shared_pages
  shared_pages = record {
    table = f.tables.classes ∙ ap (λ (t : Settings). table_of t.page_words Words) (sym f.settings);
    words_long = ap length f.region ∙ length-replicate {A = ℕ} (s.pages * s.page_words) 0 ∙ ap (λ (t : Settings). t.pages * t.page_words) (sym f.settings);
  }

  many_classes : n ≡ length (sizes h.shared_pages.settings.page_words Words)
  many_classes = many ∙ ap (λ (t : ClassTable). length t.sizes) shared_pages.table

  first_is : (t : ℕ) (x : Task) → IsTaskIn h t x → first_task n s.pages s.proxies ≡ x
  first_is t x e = replicated 16 (first_task n s.pages s.proxies) t x (sym (ap (λ ts. slice_get ts t) tasks) ∙ e)

  -- the tables are those of pages that are all free
  shown : FitPagesShared (shared_paging h.shared_pages) (tables_with h.shared_pages.tables (empty_lists n s.pages))
  shown =
      let first : AreFirst h.shared_pages.settings Words h.shared_pages.tables =
      subst (λ t. AreFirst t Words h.shared_pages.tables) (sym f.settings) f.tables in
      let t = first_table h.shared_pages.settings.page_words Words h.shared_pages.settings.page_size in
      let small = h.shared_pages.settings.small_region in
      (new_serve (shared_paging h.shared_pages) n (tables_with h.shared_pages.tables (empty_lists n s.pages)) t (omega arith) many_classes
      (λ i. record { maps = first.maps i; lists = ap (empty_lists n) (sym pages_is) i; pool = first.pool i })).part

  held_none : held_of h.shared_pages (first_task n s.pages s.proxies) ≡ empty
  held_none = nothing_held h.shared_pages.region

  first_kept : (t : ℕ) → IsTask h.shared_pages t (first_task n s.pages s.proxies)
  first_kept t = record {
    sound = subst (IsSound (shared_paging h.shared_pages)) (sym held_none) (sound_empty (shared_paging h.shared_pages));
    serve = shown;
    occupied = subst (λ m. Occupies (shared_paging h.shared_pages) m (tables_with h.shared_pages.tables (empty_lists n s.pages))) (sym held_none)
        (first_occupied n s.pages (shared_paging h.shared_pages) h.shared_pages.tables.maps.pages h.shared_pages.tables.pool);
    headed = λ q y e. absurd (
        let z : Some y ≡ None = sym e ∙ ap (λ m. get m q) held_none ∙ get-empty nat_cmp q in cc);
    numbers = sym (ap (λ (t : Settings). t.proxies) f.settings);
    handles = handles;
    live_long = length-replicate {A = ℕ} 128 0;
    counted = λ c lt. (
        let few = (are_sizes h.shared_pages.settings.page_words Words h.shared_pages.settings.page_size).few in
        let here : c < 128 = omega arith in
        get_or-replicate {A = ℕ} 128 c 0 0 here ∙ sym (ap (λ m. live (shared_paging h.shared_pages) (objects m) c) held_none
        ∙ ap (λ o. live (shared_paging h.shared_pages) o c) no_objects ∙ none_live (shared_paging h.shared_pages) c));
    pages = sym (ap (λ m. pages_needed (shared_paging h.shared_pages) (objects m)) held_none
        ∙ ap (λ m. pages_needed (shared_paging h.shared_pages) (objects m)) (sym (no_part 0)) ∙ none_needed);
  }
    where
      none_needed : pages_needed (shared_paging h.shared_pages) (objects (objects_of_task empty 0)) ≡ 0
      none_needed = (
          let le = (first_quotas (profile_of h.shared_pages.settings)).enough 0 in
          let z : get_or (replicate {A = ℕ} 16 0) 0 0 ≡ 0 = refl in
          omega arith)

  places_none : places_of h.tasks.items ≡ replicate 16 empty
  places_none = ap places_of tasks ∙ map_replicate (λ (x : Task). x.proxies.places) 16 (first_task n s.pages s.proxies)

  quotas_none : quotas_of h.tasks.items ≡ replicate 16 0
  quotas_none = ap quotas_of tasks ∙ map_replicate (λ (x : Task). x.quota) 16 (first_task n s.pages s.proxies)

  all_none : tasks_held_in h ≡ empty
  all_none = ap (λ ps. held_at h.shared_pages.region (joined_places ps)) places_none ∙ ap (held_at h.shared_pages.region) (none_joined 16) ∙ nothing_held h.shared_pages.region

  pub opened_kept : IsValid h
  opened_kept = record {
    shared_pages = shared_pages;
    many = ap length tasks ∙ length-replicate 16 (first_task n s.pages s.proxies);
    task = λ t x e. subst (IsTask h.shared_pages t) (first_is t x e) (first_kept t);
    others = λ t u x y e g ne c page w there. absurd (
        let l : empty_lists n s.pages ≡ y.lists = ap (λ (z : Task). z.lists) (first_is u y g) in
        let at : Contains (pages_in (empty_lists n s.pages) c w) page = subst (λ ls. Contains (pages_in ls c w) page) (sym l) there in
        contains_nil page (subst (λ xs. Contains xs page) (no_pages n s.pages c w) at));
    shared = subst (IsShared (profile_of h.shared_pages.settings)) (sym all_none) (first_shared (profile_of h.shared_pages.settings));
    image =
        let at : IsSlotImage (shared_paging h.shared_pages) empty (replicate (s.pages * s.page_words) 0) =
        image_empty (slot_for (shared_paging h.shared_pages)) (s.pages * s.page_words) in
        subst (λ m. IsSlotImage (shared_paging h.shared_pages) m h.shared_pages.region) (sym all_none)
        (subst (λ w. IsSlotImage (shared_paging h.shared_pages) empty w) (sym f.region) at);
    quotas = subst (λ m. AreQuotas (profile_of h.shared_pages.settings) (quotas_of h.tasks.items) m) (sym all_none)
        (subst (λ qs. AreQuotas (profile_of h.shared_pages.settings) qs empty) (sym quotas_none) (first_quotas (profile_of h.shared_pages.settings)));
    granted = none ∙ sym (ap sum quotas_none ∙ sum_zeros_list 16);
    accounted = (
        let a = ap pages_of tasks in
        let b = sum_of_zeros (λ (x : Task). x.pages) 16 (first_task n s.pages s.proxies) refl in
        let c = ap (λ (q : Pool). length q.free) f.tables.pool in
        let d = range_long 0 s.pages in
        let e = pages_is in
        omega arith);
  }

  pub opened_empty : tasks_state_of h ≡ empty_state (profile_of s)
  opened_empty =
      ap (λ qs. record (tasks_state_of h) { quotas = qs }) quotas_none
      ∙ ap (λ m. record (tasks_state_of h) { quotas = replicate 16 0; held = m }) all_none
      ∙ ap (λ ws. record (tasks_state_of h) { quotas = replicate 16 0; held = empty; words = ws }) f.region
      ∙ ap (λ (t : Settings). record (tasks_state_of h)
      { profile = profile_of t; quotas = replicate 16 0; held = empty; words = replicate (s.pages * s.page_words) 0 })
      f.settings
