-- For `malloc`, `free` and `write` of a heap of tasks: if only one task and what all tasks share changed, and both fit the objects, words and counts after the
-- call (`Becomes`), the heap is valid, and its state has these objects and words, else is as before. In each valid heap the tasks' addresses are those of the
-- objects, and words can represent these (`AreStorable`).
use Rattle.std.proofs.Math.Bridge.{le_prop}
use Rattle.std.proofs.Common.{◌≡◌, ◌≢◌, ℕ, ◌+◌, ◌/◌, ◌<◌, ◌≤◌, length, get_or, set, Some, arith, sym, ◌∙◌, ap, subst, inl, inr}
use Rattle.std.specs.Prelude.{slice_get, sum}
use Rattle.std.proofs.lemmas.Bool.{cases_eq}
use Rattle.std.proofs.lemmas.List.{length-set}
use Rattle.std.proofs.lemmas.Option.{slice_get_within}
use Rattle.std.specs.FinMap.{empty, get}
use Rattle.cf_base.specs.Settings.{profile_of}
use Rattle.cf_base.specs.declared.settings.Settings.{Settings}
use Rattle.page_model.specs.Arrangement.{IsSound, live, pages_needed}
use Rattle.page_model.specs.Bytes.{AreStorable, held_at}
use Rattle.page_model.specs.Held.{Held, Placed, objects, places}
use Rattle.page_model.specs.Image.{IsSlotImage, header_word}
use Rattle.page_model.specs.Paging.{classes}
use Rattle.page_model.proofs.CallerLemmas.{class_holds, held_at_bytes, held_from_image, places-held_at}
use Rattle.page_slots.specs.Occupying.{Occupies, FitPagesShared}
use Rattle.page_slots.specs.Tables.{AreOthers, AreTables}
use Rattle.page_slots.proofs.CallerLemmas.{mine_elsewhere, others_elsewhere, others_occupied, others_tables}
use Rattle.quota_model.specs.Joined.{AreNumbers, joined_places}
use Rattle.quota_model.proofs.CallerLemmas.{own_image, numbers_set, part_joined}
use Rattle.quota_model.specs.Parts.{key_of, objects_of_task}
use Rattle.quota_model.specs.Shared.{AreQuotas, IsShared}
use Rattle.size_classes.specs.Table.{ClassTable}
use Rattle.quota_model.proofs.CallerLemmas.{found_whole}
use Rattle.quota_heap.specs.Calls.{KeepsRest}
use Rattle.quota_heap.specs.Layout.{IsTask, IsTaskIn, IsValid, held_of, pages_of, places_of, quotas_of, shared_paging, tables_of, tasks_held_in, tasks_state_of}
use Rattle.quota_heap.specs.Steps.{with_held}
use Rattle.quota_heap.specs.declared.open_tasks.OpenTasks.{OpenTasks}
use Rattle.quota_heap.specs.declared.task.Task.{Task}
use Rattle.quota_heap.proofs.Facts.{paging_ok, table_is}
use Rattle.quota_heap.proofs.Sums.{sum_set}
use Rattle.quota_heap.proofs.Tasks.{length_map, map_set, map_set_same, mapped_here, numbers, part_is, set_here, set_there}

-- Heap h becomes heap n, in which the tasks have the objects m. Of the tasks only t differs: it was x and is x'.
pub record Becomes (h n : OpenTasks) (t : ℕ) (x x' : Task) (m : Held) : Type 0 where
  pub at : IsTaskIn h t x
  pub tasks : n.tasks.items ≡ set h.tasks.items t x'
  pub granted : n.granted ≡ h.granted
  pub rest : KeepsRest h.shared_pages x n.shared_pages x'
  pub places : joined_places (places_of (set h.tasks.items t x')) ≡ places m
  pub storable : AreStorable m
  pub long : length n.shared_pages.region ≡ length h.shared_pages.region
  pub image : IsSlotImage (shared_paging h.shared_pages) m n.shared_pages.region
  pub shared : IsShared (profile_of h.shared_pages.settings) m
  pub quotas : AreQuotas (profile_of h.shared_pages.settings) (quotas_of h.tasks.items) m
  pub others : (u : ℕ) → u ≢ t → objects_of_task m u ≡ objects_of_task (tasks_held_in h) u
  pub serve : FitPagesShared (shared_paging h.shared_pages) (tables_of n.shared_pages x')
  pub occupied : Occupies (shared_paging h.shared_pages) (objects_of_task m t) (tables_of n.shared_pages x')
  pub limit : x'.proxies.limit ≡ x.proxies.limit
  pub live_long : length x'.live ≡ 128
  pub counted : (c : ℕ) → c < classes (shared_paging h.shared_pages) → get_or x'.live c 0 ≡ live (shared_paging h.shared_pages) (objects (objects_of_task m t)) c
  pub pages : x'.pages ≡ pages_needed (shared_paging h.shared_pages) (objects (objects_of_task m t))

-- heap n with these settings and classes in place of its own; its maps have room for the slots of the classes
abbrev pub with_rest : (n : OpenTasks) → Settings → (k : ClassTable) → k.page_words / 4 ≤ n.shared_pages.tables.maps.most → OpenTasks
with_rest n s k room = record n {
  shared_pages = record n.shared_pages { settings = s; tables = record n.shared_pages.tables { classes = k; room = room } };
}

module _ (h n : OpenTasks) (k : IsValid h) (t : ℕ) (x x' : Task) (m : Held) (b : Becomes h n t x x' m) where
  room : h.shared_pages.tables.classes.page_words / 4 ≤ n.shared_pages.tables.maps.most
  room = subst (λ (k : ClassTable). k.page_words / 4 ≤ n.shared_pages.tables.maps.most) b.rest.classes n.shared_pages.tables.room

  -- heap n with the settings and classes of h; it equals n, as no call changes them
  abbrev w : OpenTasks
  w = with_rest n h.shared_pages.settings h.shared_pages.tables.classes room

  same : n ≡ w
  same = ap (λ s. with_rest n s n.shared_pages.tables.classes n.shared_pages.tables.room) b.rest.settings
      ∙ subst (λ (k : ClassTable). (r : k.page_words / 4 ≤ n.shared_pages.tables.maps.most)
      → with_rest n h.shared_pages.settings n.shared_pages.tables.classes n.shared_pages.tables.room ≡ with_rest n h.shared_pages.settings k r) b.rest.classes
      (λ r. ap (with_rest n h.shared_pages.settings n.shared_pages.tables.classes) (le_prop n.shared_pages.tables.room r)) room

  lt : t < length h.tasks.items
  lt = slice_get_within h.tasks.items t x b.at

  -- task t of w is the changed one; below, each other task of w is that of h
  own_in : IsTaskIn w t x'
  own_in = ap (λ ts. slice_get ts t) b.tasks ∙ set_here h.tasks.items t x' lt

  own_is : (y : Task) → IsTaskIn w t y → x' ≡ y
  own_is y e = (let z : Some x' ≡ Some y = sym own_in ∙ e in cc)

  other_in : (u : ℕ) (y : Task) → u ≢ t → IsTaskIn w u y → IsTaskIn h u y
  other_in u y ne e = sym (set_there h.tasks.items t u x' ne) ∙ sym (ap (λ ts. slice_get ts u) b.tasks) ∙ e

  held_is : tasks_held_in w ≡ m
  held_is = held_from_image m (joined_places (places_of n.tasks.items)) n.shared_pages.region
      (own_image (profile_of h.shared_pages.settings) m b.shared h.shared_pages.settings.page_size n.shared_pages.region b.image)
      (ap (λ ts. joined_places (places_of ts)) b.tasks ∙ b.places) b.storable

  new_numbers : AreNumbers (places_of n.tasks.items)
  new_numbers = subst (λ ts. AreNumbers (places_of ts)) (sym b.tasks) (subst AreNumbers (sym (map_set (λ (y : Task). y.proxies.places) h.tasks.items t x'))
      (numbers_set (places_of h.tasks.items) (numbers h k) t (let e = long_places in let l = lt in omega arith) x'.proxies.places
      (λ q a f. (
      let low = b.rest.handles.below q a f in let e = b.limit in let i = (k.task t x b.at).numbers in let few = h.shared_pages.settings.few_proxies in
      omega arith))))
    where
      long_places : length (places_of h.tasks.items) ≡ length h.tasks.items
      long_places = length_map (λ (y : Task). y.proxies.places) h.tasks.items

  -- the objects of each task are those that m has under the task's keys (`objects_of_task`)
  part_here : (u : ℕ) (y : Task) → IsTaskIn w u y → held_of w.shared_pages y ≡ objects_of_task m u
  part_here u y e = sym (
      part_joined n.shared_pages.region (places_of n.tasks.items) new_numbers u
      ∙ ap (held_at n.shared_pages.region) (mapped_here (λ (z : Task). z.proxies.places) n.tasks.items u y
      empty e)) ∙ ap (λ a. objects_of_task a u) held_is

  sound : (u : ℕ) (y : Task) → IsTaskIn w u y → IsSound (shared_paging h.shared_pages) (held_of w.shared_pages y)
  sound u y e = subst (IsSound (shared_paging h.shared_pages)) (sym (part_here u y e)) (b.shared.sound u)

  headed : (u : ℕ) (y : Task) → IsTaskIn w u y → (q : ℕ) (z : Placed) → get (held_of w.shared_pages y) q ≡ Some z
      → get_or n.shared_pages.region z.place 0 ≡ header_word (key_of u q) (length z.bytes)
  headed u y e q z f =
      let there : get (objects_of_task m u) q ≡ Some z = sym (ap (λ a. get a q) (part_here u y e)) ∙ f in
      let some = class_holds (shared_paging h.shared_pages) (paging_ok h.shared_pages) (length z.bytes) ((b.shared.sound u).slots q z there).class in
      let at0 : z.place + 0 ≡ z.place = omega arith in
      sym (ap (λ i. get_or n.shared_pages.region i 0) at0) ∙ b.image.held (key_of u q) z (found_whole m u q z there) 0 (omega arith)

  -- the changed task keeps its invariant
  own_task : IsTask w.shared_pages t x'
  own_task =
      let e = part_here t x' own_in in record {
        sound = sound t x' own_in;
        serve = b.serve;
        occupied = subst (λ a. Occupies (shared_paging h.shared_pages) a (tables_of n.shared_pages x')) (sym e) b.occupied;
        headed = headed t x' own_in;
        numbers = b.limit ∙ (k.task t x b.at).numbers;
        handles = b.rest.handles;
        live_long = b.live_long;
        counted = λ c l. b.counted c l ∙ ap (λ a. live (shared_paging h.shared_pages) (objects a) c) (sym e);
        pages = b.pages ∙ ap (λ a. pages_needed (shared_paging h.shared_pages) (objects a)) (sym e);
      }

  -- the tables of the changed task keep their rules, with the classes of h
  new_tables : AreTables h.shared_pages.tables.classes (tables_of n.shared_pages x')
  new_tables = b.rest.tables

  pages_same : n.shared_pages.tables.pool.pages ≡ h.shared_pages.tables.pool.pages
  pages_same = b.serve.pages ∙ sym (k.task t x b.at).serve.pages

  abbrev old_tables_of : (u : ℕ) (y : Task) → IsTaskIn h u y → AreTables h.shared_pages.tables.classes (tables_of h.shared_pages y)
  old_tables_of u y e = subst (λ c. AreTables c (tables_of h.shared_pages y)) (table_is h.shared_pages k.shared_pages) (k.task u y e).serve.tables

  other_tables : (u : ℕ) (y : Task) → u ≢ t → IsTaskIn h u y → AreTables h.shared_pages.tables.classes (tables_of n.shared_pages y)
  other_tables u y ne e = others_tables h.shared_pages.tables.classes (tables_of h.shared_pages x) (tables_of n.shared_pages x') new_tables pages_same b.rest.elsewhere y.lists
      (k.others t u x y b.at e ne) (old_tables_of u y e)

  -- a task other than the changed one keeps its invariant
  other_task : (u : ℕ) (y : Task) → u ≢ t → IsTaskIn w u y → IsTask w.shared_pages u y
  other_task u y ne e =
      let f = other_in u y ne e in
      let was = k.task u y f in
      let eq : held_of w.shared_pages y ≡ held_of h.shared_pages y = part_here u y e ∙ b.others u ne ∙ part_is h k u y f in record {
        sound = sound u y e;
        serve = record {
          tables = subst (λ c. AreTables c (tables_of n.shared_pages y)) (sym (table_is h.shared_pages k.shared_pages)) (other_tables u y ne f);
          pages = pages_same ∙ was.serve.pages;
        };
        occupied = subst (λ a. Occupies (shared_paging h.shared_pages) a (tables_of n.shared_pages y)) (sym eq)
            (others_occupied h.shared_pages.tables.classes (tables_of h.shared_pages x) (tables_of n.shared_pages x') new_tables pages_same b.rest.elsewhere y.lists
            (k.others t u x y b.at f ne) (old_tables_of u y f) (shared_paging h.shared_pages) (held_of h.shared_pages y) was.occupied);
        headed = headed u y e;
        numbers = was.numbers;
        handles = was.handles;
        live_long = was.live_long;
        counted = λ c l. was.counted c l ∙ ap (λ a. live (shared_paging h.shared_pages) (objects a) c) (sym eq);
        pages = was.pages ∙ ap (λ a. pages_needed (shared_paging h.shared_pages) (objects a)) (sym eq);
      }

  -- no page is used by two tasks
  from_own : (u : ℕ) (y : Task) → u ≢ t → IsTaskIn h u y → AreOthers (tables_of n.shared_pages x') y.lists
  from_own u y ne e = others_elsewhere h.shared_pages.tables.classes (tables_of h.shared_pages x) (tables_of n.shared_pages x') new_tables pages_same b.rest.elsewhere y.lists
      (k.others t u x y b.at e ne) (old_tables_of u y e)

  apart : (u v : ℕ) (y z : Task) → IsTaskIn w u y → IsTaskIn w v z → v ≢ u → AreOthers (tables_of n.shared_pages y) z.lists
  apart u v y z e f ne = elim (cases_eq u t) [
    | inl is ↦ (
        let other : v ≢ t = λ a. ne (a ∙ sym is) in
        let y_is : x' ≡ y = own_is y (subst (λ i. IsTaskIn w i y) is e) in
        subst (λ (s : Task). AreOthers (tables_of n.shared_pages s) z.lists) y_is (from_own v z other (other_in v z other f)))
    | inr u_ne ↦ elim (cases_eq v t) [
      | inl is ↦ (
          let z_is : x' ≡ z = own_is z (subst (λ i. IsTaskIn w i z) is f) in
          subst (λ (s : Task). AreOthers (tables_of n.shared_pages y) s.lists) z_is
          (mine_elsewhere h.shared_pages.tables.classes (tables_of n.shared_pages x') new_tables y.lists (from_own u y u_ne (other_in u y u_ne e))))
      | inr v_ne ↦ λ c page which there. record {
        taken = (from_own v z v_ne (other_in v z v_ne f) c page which there).taken;
        unlisted = (k.others u v y z (other_in u y u_ne e) (other_in v z v_ne f) ne c page which there).unlisted;
      }
    ]
  ]

  quotas_same : quotas_of n.tasks.items ≡ quotas_of h.tasks.items
  quotas_same = ap quotas_of b.tasks ∙ map_set_same (λ (y : Task). y.quota) h.tasks.items t x x' b.at b.rest.quota

  rest_kept : IsValid w
  rest_kept = record {
    shared_pages = record { table = k.shared_pages.table; words_long = b.long ∙ k.shared_pages.words_long };
    many = ap length b.tasks ∙ length-set h.tasks.items t x' ∙ k.many;
    task = λ u y e. elim (cases_eq u t) [
      | inl is ↦ (
          let y_is : x' ≡ y = own_is y (subst (λ i. IsTaskIn w i y) is e) in
          subst (λ i. IsTask w.shared_pages i y) (sym is) (subst (IsTask w.shared_pages t) y_is own_task))
      | inr ne ↦ other_task u y ne e
    ];
    others = apart;
    shared = subst (IsShared (profile_of h.shared_pages.settings)) (sym held_is) b.shared;
    image = subst (λ a. IsSlotImage (shared_paging h.shared_pages) a n.shared_pages.region) (sym held_is) b.image;
    quotas = subst (λ a. AreQuotas (profile_of h.shared_pages.settings) (quotas_of n.tasks.items) a) (sym held_is)
        (subst (λ qs. AreQuotas (profile_of h.shared_pages.settings) qs m) (sym quotas_same) b.quotas);
    granted = b.granted ∙ k.granted ∙ ap sum (sym quotas_same);
    accounted = (
        let s = sum_set (λ (y : Task). y.pages) h.tasks.items t x x' b.at in
        let e = ap pages_of b.tasks in
        let a = b.rest.account in
        let was = k.accounted in
        omega arith);
  }

  pub becomes_kept : IsValid n
  becomes_kept = subst IsValid (sym same) rest_kept

  pub becomes_state : tasks_state_of n ≡ with_held (tasks_state_of h) m n.shared_pages.region
  becomes_state = ap tasks_state_of same
      ∙ ap (λ qs. record (tasks_state_of h) { quotas = qs; held = tasks_held_in w; words = n.shared_pages.region }) quotas_same
      ∙ ap (λ a. record (tasks_state_of h) { held = a; words = n.shared_pages.region }) held_is

module _ (h : OpenTasks) (k : IsValid h) where
  pub places_are : joined_places (places_of h.tasks.items) ≡ places (tasks_held_in h)
  places_are = sym (places-held_at h.shared_pages.region (joined_places (places_of h.tasks.items)))

  pub stored : AreStorable (tasks_held_in h)
  stored key x e = (
    (let s = k.shared.tasks key x e in let few = h.shared_pages.settings.few_proxies in let n = k.shared.numbers key x e in omega arith),
    held_at_bytes h.shared_pages.region (joined_places (places_of h.tasks.items)) key x e,
  )
