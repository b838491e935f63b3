-- For the clauses `cost` of mallocs, frees and resizes: the tables and the order yield the same steps of taking, freeing and filling a slot; and the steps of a
-- malloc's and a free's parts add up to the exact cost, which the order determines.
use Rattle.std.proofs.Common.{◌≡◌, ℕ, ◌+◌, ◌<◌, length, get_or, Option, None, Some, Ok, arith, refl, sym, ◌∙◌, ap, subst}
use Rattle.std.specs.Prelude.{IsSome, slice_get}
use Rattle.std.proofs.lemmas.Bool.{false≢true}
use Rattle.cf_base.specs.declared.kind.Kind.{Kind}
use Rattle.cf_base.specs.Classes.{class_of}
use Rattle.cf_base.specs.declared.results.Freed.{Freed}
use Rattle.cf_base.specs.declared.results.Handle.{Handle}
use Rattle.class_lists.specs.PageLists.{pages_in}
use Rattle.class_lists.specs.declared.Which.TheVariants.{NotFull}
use Rattle.page_model.specs.Arrangement.{class_at}
use Rattle.page_model.specs.Held.{Placed}
use Rattle.page_model.specs.Image.{slot_for}
use Rattle.page_model.specs.Order as Order
use Rattle.page_model.specs.Order.{word_steps}
use Rattle.page_model.specs.Paging.{class_for, classes, page_of}
use Rattle.page_slots.specs.Release.{drop_slot_steps, fill_slot_steps}
use Rattle.size_classes.specs.Table.{ClassTable}
use Rattle.page_slots.specs.Orders.{order_of}
use Rattle.page_slots.specs.Tables.{Tables, page_at}
use Rattle.page_slots.specs.Take.{TakesAt, take_slot_steps}
use Rattle.step_ledger.proofs.CallerLemmas.{rose_both, rose_by}
use Rattle.page_slots.proofs.CallerLemmas.{drop_same, fill_same, steps_same, class_is, it, it_found, it_class, it_slot, page_same, it_used, as_many}
use Rattle.step_ledger.specs.Counting.{RoseBy}
use Rattle.virtual_words.specs.Words.{run_steps, slot_steps, wipe_steps}
use Rattle.virtual_words.proofs.CallerLemmas.{whole_run}
use Rattle.cf_model.specs.ExactCosts.{free_cost, leaving_cost, malloc_cost}
use Rattle.page_slots.specs.Leaving.{Leaves, Parts, leaving_steps}
use Rattle.paged_heap.proofs.LeftSlot.{parts_of, slot as left_slot}
use Rattle.paged_heap.specs.Heap.{Heap}
use Rattle.paged_heap.specs.Layout.{IsValid, held_in, order_in, paging_at, state_of, tables_in, owner_in}
use Rattle.paged_heap.proofs.FreedObject.{taken_out}
use Rattle.paged_heap.proofs.LayoutFacts.{table_is, owns, paging_ok}
use Rattle.paged_heap.proofs.WholeBlocks.{whole_slot}
use Rattle.page_slots.specs.Owner.{IsObjectAt}

module _ (h : Heap) (k : IsValid h) where
  -- the steps of taking a slot of class c, by the tables and by the order
  pub takes_by : (c a : ℕ) (new : Tables) → c < classes (paging_at h) → TakesAt h.classes (tables_in h) c a new
      → take_slot_steps h.classes (tables_in h) c ≡ Order.steps_to_take (paging_at h) (held_in h) (order_in h) c
  takes_by c a new class t =
      ap (λ t. take_slot_steps t (tables_in h) c) (sym (table_is h k))
      ∙ steps_same k.serve.part k.occupied class h.proxies.free a new (subst (λ t. TakesAt t (tables_in h) c a new) (sym (table_is h k)) t)
      ∙ ap (λ s. Order.steps_to_take (paging_at h) (held_in h) (order_of s (tables_in h) h.proxies.free) c) (sym (as_many (paging_at h) (table_is h k)))

  -- the steps of a malloc's parts sum to its exact cost
  pub malloc_sum : (bytes c : ℕ) → Some c ≡ class_of h.classes.sizes bytes → (q : Handle) (a : ℕ) (new : Tables) → TakesAt h.classes (tables_in h) c a new
      → (s t u v : ℕ) → RoseBy s t 1 → RoseBy t u (take_slot_steps h.classes (tables_in h) c) → RoseBy u v (2 + word_steps h.kind)
      → RoseBy s v (malloc_cost (state_of h) (order_in h) bytes (Ok q))
  malloc_sum bytes c found q a new taken s t u v x y z =
      let is = class_is (paging_ok h k) (table_is h k) bytes c found in
      let same : take_slot_steps h.classes (tables_in h) c ≡ Order.steps_to_take (paging_at h) (held_in h) (order_in h) (class_for (paging_at h) bytes) =
      takes_by c a new is.2 taken ∙ ap (Order.steps_to_take (paging_at h) (held_in h) (order_in h)) (sym is.1) in
      rose_by s v _ _ (omega arith) (rose_both s u v _ _ (rose_both s t u _ _ x y) z)

module _ {h : Heap} (k : IsValid h) {q a size c : ℕ} (o : IsObjectAt (owner_in h) q a size c) where
  -- the steps of freeing the object's slot, by the tables and by the order
  pub drops_by : drop_slot_steps (tables_in h) (page_at h.classes a) ≡ Order.steps_to_drop (paging_at h) (held_in h) (class_at (paging_at h) (it (owns k) o))
      (page_of (paging_at h) a)
  drops_by = drop_same k.serve.part k.occupied o.in_range h.proxies.free (page_at h.classes a) (it_used (owns k) o).of
      ∙ ap (λ d. Order.steps_to_drop (paging_at h) (held_in h) d (page_at h.classes a)) (sym (it_class (owns k) o))
      ∙ ap (Order.steps_to_drop (paging_at h) (held_in h) (class_at (paging_at h) (it (owns k) o))) (sym (page_same (owns k) o))

  -- the steps of freeing the slot of the object that moves, by the tables and by the order
  pub fills_by : (page : ℕ) → slice_get (pages_in h.lists c NotFull) 0 ≡ Some page
      → fill_slot_steps (tables_in h) c ≡ Order.steps_to_fill (paging_at h) (held_in h) (order_in h) (class_at (paging_at h) (it (owns k) o))
  fills_by page front = fill_same k.serve.part k.occupied o.in_range h.proxies.free page front
      ∙ ap (λ s. Order.steps_to_fill (paging_at h) (held_in h) (order_of s (tables_in h) h.proxies.free) c) (sym (as_many (paging_at h) (table_is h k)))
      ∙ ap (Order.steps_to_fill (paging_at h) (held_in h) (order_in h)) (sym (it_class (owns k) o))

  -- the steps of leaving the object's slot (`leave_slot`), by the tables of a heap g that yield the same steps, and by the order
  pub leaving_is : {words : ℕ} → words ≡ get_or h.classes.sizes c 0 → (g : Heap) → g.kind ≡ h.kind → g.classes ≡ h.classes
      → drop_slot_steps (tables_in g) (page_at h.classes a) ≡ drop_slot_steps (tables_in h) (page_at h.classes a)
      → fill_slot_steps (tables_in g) c ≡ fill_slot_steps (tables_in h) c → (r : Option Handle)
      → (IsSome r → (page : ℕ) × (slice_get (pages_in h.lists c NotFull) 0 ≡ Some page))
      → leaving_steps g.kind (parts_of g) (left_slot words c a) r ≡ leaving_cost (state_of h) (order_in h) (it (owns k) o) r
  leaving_is {words} long g kind classes drop fill None front =
      let w = whole_slot h k q (it (owns k) o) (it_found (owns k) o) in
      let slot = slot_for (paging_at h) (length (it (owns k) o).bytes) in
      let wiped : run_steps h.kind a words ≡ wipe_steps h.kind slot = ap (run_steps h.kind a) (long ∙ it_slot (owns k) o) ∙ whole_run h.kind a slot w.0 w.1 in
      let e = drops_by in
      ap (λ (κ : Kind). run_steps κ a words + drop_slot_steps (tables_in g) (page_at g.classes a)) kind
      ∙ ap (λ (t : ClassTable). run_steps h.kind a words + drop_slot_steps (tables_in g) (page_at t a)) classes ∙ (omega arith)
  leaving_is {words} long g kind classes drop fill (Some y) front =
      let slot = slot_for (paging_at h) (length (it (owns k) o).bytes) in
      let moved : slot_steps h.kind words ≡ slot_steps h.kind slot = ap (slot_steps h.kind) (long ∙ it_slot (owns k) o) in
      let f = front refl in
      let e = fills_by f.0 f.1 in
      ap (λ (κ : Kind). fill_slot_steps (tables_in g) c + word_steps κ + (slot_steps κ words + 1)) kind ∙ (omega arith)

  -- the steps of releasing the number and leaving the slot
  pub leaves_sum : {words : ℕ} → words ≡ get_or h.classes.sizes c 0 → {g : Heap} → g ≡ taken_out h q size c → (n : Parts) (r : Option Handle)
      → Leaves (parts_of g) (left_slot words c a) r n → (s t u : ℕ) → RoseBy s t 2 → RoseBy t u (leaving_steps g.kind (parts_of g) (left_slot words c a) r)
      → RoseBy s u (2 + leaving_cost (state_of h) (order_in h) (it (owns k) o) r)
  leaves_sum {words} long {g} counted n r left s t u r1 r2 =
      let is = subst (λ (x : Heap). leaving_steps x.kind (parts_of x) (left_slot words c a) r ≡ leaving_cost (state_of h) (order_in h) (it (owns k) o) r)
      (sym counted) (leaving_is long (taken_out h q size c) refl refl refl refl r (front r left)) in
      rose_by s u _ _ (ap (λ n. 2 + n) is) (rose_both s t u _ _ r1 r2)
    where
      front : (r : Option Handle) → Leaves (parts_of g) (left_slot words c a) r n → IsSome r → (page : ℕ) × (slice_get (pages_in h.lists c NotFull) 0 ≡ Some page)
      front None left none = absurd (false≢true none)
      front (Some y) left some = (left.filled.page, subst (λ (x : Heap). slice_get (pages_in x.lists c NotFull) 0 ≡ Some left.filled.page) counted left.filled.front)

  -- the steps of a free's parts sum to its exact cost
  pub free_sum : (freed : Freed) (s t u v w z : ℕ) → RoseBy s t 1 → RoseBy t u (word_steps h.kind) → RoseBy u v 1 → RoseBy v w 1
      → RoseBy w z (2 + leaving_cost (state_of h) (order_in h) (it (owns k) o) freed.moved) → RoseBy s z (free_cost (state_of h) (order_in h) q (Ok freed))
  free_sum freed s t u v w z r1 r2 r3 r4 r5 =
      let is : free_cost (state_of h) (order_in h) q (Ok freed) ≡ 5 + word_steps h.kind + leaving_cost (state_of h) (order_in h) (it (owns k) o) freed.moved =
      ap (λ (m : Option Placed). elim m [ None ↦ 0 | Some x ↦ 5 + word_steps h.kind + leaving_cost (state_of h) (order_in h) x freed.moved ])
      (it_found (owns k) o) in
      rose_by s z _ _ (omega arith) (rose_both s w z _ _ (rose_both s v w _ _ (rose_both s u v _ _ (rose_both s t u _ _ r1 r2) r3) r4) r5)
