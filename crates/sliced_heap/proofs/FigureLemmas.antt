-- For `figures`, `totals` and `slot_words`: the counts, and the lengths of the page lists, of the pool and of the proxies, are the model's numbers for the
-- objects, with the job's placeholder or without; the counts don't overflow; the job's slot has one of the heap's classes; and each object's length has a
-- class, whose slot size is the object's.
use Rattle.std.proofs.Common.{◌≡◌, ℕ, ◌+◌, ◌*◌, ◌^◌, ◌<◌, ◌≤◌, length, get_or, Option, Some, None, arith, refl, sym, ◌∙◌, ap, subst}
use Rattle.std.specs.Prelude.{if◌then◌else◌, nat_eq, option_map}
use Rattle.std.specs.FinMap.{get, len}
use Rattle.cf_base.specs.Classes.{class_of, slots}
use Rattle.cf_base.specs.declared.results.Figures.{Figures}
use Rattle.cf_base.specs.declared.results.Totals.{Totals}
use Rattle.cf_base.proofs.MapValues.{get-map_values, map_values-insert}
use Rattle.class_lists.specs.PageLists.{pages_in}
use Rattle.class_lists.specs.declared.Which.TheVariants.{Full, NotFull}
use Rattle.page_model.specs.Arrangement.{class_at, free_pages, live, not_full_pages, pages_of_class, used_pages}
use Rattle.page_model.specs.Figures.{asked_bytes, taken_bytes}
use Rattle.page_model.specs.Held.{Held, Placed, objects}
use Rattle.page_model.specs.Paging.{class_for, classes, slot_words, slots_of}
use Rattle.page_model.proofs.CallerLemmas.{home_at_most, taken_added}
use Rattle.page_slots.proofs.CallerLemmas.{class_is, class_some, free_pages_are, home_pages_are, not_full_pages_are, pages_are}
use Rattle.size_classes.specs.Table.{ClassTable}
use Rattle.slice_model.specs.declared.job_slot.JobSlot.{JobSlot}
use Rattle.slice_model.specs.State.{Plan, Sliced, job_slot, occupied, placeholder, with_slot}
use Rattle.slice_model.proofs.CallerLemmas.{job_class, no_placeholder, placeholder_class}
use Rattle.sliced_heap.specs.Figures.{class_figures, sliced_totals_in}
use Rattle.sliced_heap.specs.Heap.{Heap}
use Rattle.sliced_heap.specs.Layout.{IsValid, plan_of, sliced_paging, sliced_state_of, sliced_tables_in}
use Rattle.sliced_heap.proofs.ByteCounts.{taken_room}
use Rattle.sliced_heap.proofs.Facts.{held_len, paging_ok, table_is}
use Rattle.sliced_heap.proofs.Headers.{in_class}

-- all figures of a class, and of the heap, at once
figures_same : (plan : Plan) (s : Sliced) (c w n l g f : ℕ) → w ≡ slot_words plan.paging c → n ≡ slots_of plan.paging c → l ≡ live plan.paging (objects s.held) c
    → g ≡ pages_of_class plan.paging (occupied plan s) c → f ≡ not_full_pages plan.paging (occupied plan s) c
    → ◌≡◌ {A = Figures} (record { slot_words = w; slots = n; live = l; pages = g; not_full = f }) (class_figures plan s c)
figures_same plan s c w n l g f ew en el eg ef = rw (ew, en, el, eg, ef) refl

totals_same : (plan : Plan) (s : Sliced) (l a t h u f g : ℕ) → l ≡ len s.held → a ≡ asked_bytes (objects s.held)
    → t ≡ taken_bytes plan.paging (objects (occupied plan s)) → h ≡ 8 * plan.paging.page_words * used_pages plan.paging (occupied plan s)
    → u ≡ used_pages plan.paging (occupied plan s) → f ≡ free_pages plan.paging (occupied plan s)
    → g ≡ (if nat_eq (free_pages plan.paging (occupied plan s)) 0 then 0 else plan.paging.page_words)
    → ◌≡◌ {A = Totals} (record { live = l; asked = a; taken = t; held = h; used = u; free = f; largest = g }) (sliced_totals_in plan s)
totals_same plan s l a t h u f g el ea et eh eu ef eg = rw (el, ea, et, eh, eu, ef, eg) refl

module _ (h : Heap) (k : IsValid h) where
  abbrev all : Held
  all = occupied (plan_of h) (sliced_state_of h)

  pub free_is : free_pages (sliced_paging h) (occupied (plan_of h) (sliced_state_of h)) ≡ length h.pool.free
  free_is = free_pages_are (sliced_paging h) (paging_ok h k) all (sliced_tables_in h) k.serve.part k.occupied k.serve.whole k.kept.sound

  pub used_is : used_pages (sliced_paging h) (occupied (plan_of h) (sliced_state_of h)) + length h.pool.free ≡ h.settings.pages
  used_is = pages_are (sliced_paging h) (paging_ok h k) all (sliced_tables_in h) k.serve.part k.occupied k.serve.whole k.kept.sound

  module _ (c : ℕ) where
    home_is : pages_of_class (sliced_paging h) all c ≡ length (pages_in h.lists c Full) + length (pages_in h.lists c NotFull)
    home_is = home_pages_are (sliced_paging h) (paging_ok h k) all (sliced_tables_in h) k.serve.part k.occupied c

    pub home_few : length (pages_in h.lists c Full) + length (pages_in h.lists c NotFull) ≤ 4096
    home_few = (let e = home_is in let l = home_at_most (sliced_paging h) all c in let few = h.settings.few_pages in omega arith)

    module _ (lt : c < classes (sliced_paging h)) where
      pub figures_are : (w n l g f : ℕ) → w ≡ get_or h.classes.sizes c 0 → n ≡ slots h.classes.page_words h.classes.sizes c → l ≡ get_or h.live c 0
          → g ≡ length (pages_in h.lists c Full) + length (pages_in h.lists c NotFull) → f ≡ length (pages_in h.lists c NotFull)
          → ◌≡◌ {A = Figures} (record { slot_words = w; slots = n; live = l; pages = g; not_full = f }) (class_figures (plan_of h) (sliced_state_of h) c)
      figures_are w n l g f ew en el eg ef = figures_same (plan_of h) (sliced_state_of h) c w n l g f
          (ew ∙ ap (λ (t : ClassTable). get_or t.sizes c 0) k.table)
          (en ∙ ap (λ (t : ClassTable). slots t.page_words t.sizes c) k.table)
          (el ∙ k.counted c lt)
          (eg ∙ sym home_is)
          (ef ∙ sym (not_full_pages_are (sliced_paging h) (paging_ok h k) all (sliced_tables_in h) k.serve.part k.occupied c))

  pub totals_are : (l a t b u f g : ℕ) → l ≡ len h.proxies.places → a ≡ h.asked
      → t ≡ taken_bytes (sliced_paging h) (objects (occupied (plan_of h) (sliced_state_of h))) → f ≡ length h.pool.free → u + f ≡ h.settings.pages
      → b ≡ 8 * h.settings.page_words * u → g ≡ (if nat_eq f 0 then 0 else h.settings.page_words)
      → ◌≡◌ {A = Totals} (record { live = l; asked = a; taken = t; held = b; used = u; free = f; largest = g }) (sliced_totals_in (plan_of h) (sliced_state_of h))
  totals_are l a t b u f g el ea et ef eu eb eg =
      let free : f ≡ free_pages (sliced_paging h) all = ef ∙ sym free_is in
      let used : u ≡ used_pages (sliced_paging h) all = (let i = used_is in omega arith) in
      totals_same (plan_of h) (sliced_state_of h) l a t b u f g (el ∙ sym (held_len h k)) (ea ∙ k.asked_all) et
      (eb ∙ ap (λ n. 8 * h.settings.page_words * n) used) used free (eg ∙ ap (λ n. if nat_eq n 0 then 0 else h.settings.page_words) free)

  -- one slot more does not overflow
  pub taken_more : (w : ℕ) → w ≤ h.classes.page_words → h.taken + 8 * w < 2 ^ 64
  taken_more w le =
      let room = taken_room h k in
      let small = k.serve.part.tables.table.small in
      let page = ap (λ (t : ClassTable). t.page_words) k.table in
      omega arith

  -- the slot of the pending job is one more that is taken
  module _ (g : JobSlot) (slot : job_slot h.job ≡ Some g) where
    pub job_in_classes : g.class < classes (sliced_paging h)
    job_in_classes = (job_class (sliced_paging h) (sliced_state_of h).held h.job k.kept.job g slot).class

    pub taken_beside : h.taken + 8 * slot_words (sliced_paging h) g.class ≡ taken_bytes (sliced_paging h) (objects (occupied (plan_of h) (sliced_state_of h)))
    taken_beside =
        let m = (sliced_state_of h).held in
        let stand = placeholder (sliced_paging h) g in
        let none = no_placeholder (plan_of h) m k.kept.numbers in
        let bare : get (objects m) h.settings.proxies ≡ None =
        get-map_values (λ (x : Placed). x.bytes) m h.settings.proxies ∙ ap (option_map (λ (x : Placed). x.bytes)) none in
        let more = taken_added (sliced_paging h) (objects m) h.settings.proxies stand.bytes bare in
        let class = ap (slot_words (sliced_paging h)) (placeholder_class (sliced_paging h) (paging_ok h k) g job_in_classes) in
        let with_it = ap (λ o. taken_bytes (sliced_paging h) (objects (with_slot (plan_of h) m o))) slot in
        let inserted = ap (taken_bytes (sliced_paging h)) (map_values-insert (λ (x : Placed). x.bytes) m h.settings.proxies stand) in
        let was = k.taken_all in
        omega arith

-- an object of this length is found
module _ (h : Heap) (k : IsValid h) (q size : ℕ) (shown : Some size ≡ option_map (λ (x : Placed). length x.bytes) (get (sliced_state_of h).held q)) where
  object : (x : Placed) × (get (sliced_state_of h).held q ≡ Some x) × (length x.bytes ≡ size)
  object = by_object (get (sliced_state_of h).held q) refl
    where
      by_object : (o : Option Placed) → get (sliced_state_of h).held q ≡ o → (x : Placed) × (get (sliced_state_of h).held q ≡ Some x) × (length x.bytes ≡ size)
      by_object None e = absurd (let z : Some size ≡ None = shown ∙ ap (option_map (λ (x : Placed). length x.bytes)) e in cc)
      by_object (Some x) e = (x, e, (let z : Some size ≡ Some (length x.bytes) = shown ∙ ap (option_map (λ (x : Placed). length x.bytes)) e in cc))

  pub has_class : None ≡ class_of h.classes.sizes size → ⊥
  has_class = class_some (paging_ok h k) (table_is h k) size
      (subst (λ n. class_for (sliced_paging h) n < classes (sliced_paging h)) object.2 (in_class h k q object.0 object.1))

  pub words_found : (c : ℕ) → Some c ≡ class_of h.classes.sizes size → (w : ℕ) → w ≡ get_or h.classes.sizes c 0
      → Some w ≡ option_map (λ (x : Placed). slot_words (sliced_paging h) (class_at (sliced_paging h) x)) (get (sliced_state_of h).held q)
  words_found c found w is =
      let class : class_at (sliced_paging h) object.0 ≡ c = ap (class_for (sliced_paging h)) object.2 ∙ (class_is (paging_ok h k) (table_is h k) size c found).1 in
      ap Some (is ∙ ap (λ (t : ClassTable). get_or t.sizes c 0) k.table ∙ ap (slot_words (sliced_paging h)) (sym class))
      ∙ sym (ap (option_map (λ (x : Placed). slot_words (sliced_paging h) (class_at (sliced_paging h) x))) object.1)
