-- For the clauses `cost` of a resize: the steps of its parts, in the same slot and to another class, add up to its exact cost, which the order determines. The
-- most steps of a resize are below 2^62.
use Rattle.std.proofs.Common.{◌≡◌, ℕ, ◌+◌, ◌*◌, ◌^◌, ◌<◌, List, true, false, length, Option, None, Some, Result, Ok, Err, arith, sym, ◌∙◌, ap, subst}
use Rattle.std.specs.Prelude.{IfErr, IsSome, if◌then◌else◌, nat_eq, slice_get}
use Rattle.std.proofs.lemmas.Bool.{false≢true}
use Rattle.cf_base.specs.declared.results.Handle.{Handle}
use Rattle.cf_base.specs.declared.results.Resized.{Resized}
use Rattle.cf_base.specs.declared.results.ResizeFault.{ResizeFault}
use Rattle.cf_base.specs.declared.results.ResizeFault.TheVariants as resize
use Rattle.cf_base.proofs.Tests.{eq_no, eq_yes}
use Rattle.cf_model.specs.Costs.{resize_bound}
use Rattle.cf_model.specs.State.{HeapState}
use Rattle.cf_model.specs.Steps.{IsResizeStep}
use Rattle.class_lists.specs.PageLists.{pages_in}
use Rattle.class_lists.specs.declared.Which.TheVariants.{NotFull}
use Rattle.page_model.specs.Arrangement.{class_at}
use Rattle.page_model.specs.Held.{Placed}
use Rattle.page_model.specs.Order as Order
use Rattle.page_model.specs.Order.{word_steps}
use Rattle.page_model.specs.Paging.{class_for}
use Rattle.page_model.proofs.CallerLemmas.{class_fits, slot_fits}
use Rattle.page_slots.specs.Tables.{IsOf, Tables, page_at}
use Rattle.page_slots.specs.Take.{TakesAt, take_slot_steps}
use Rattle.step_ledger.proofs.CallerLemmas.{rose_both, rose_by}
use Rattle.step_ledger.specs.Counting.{RoseBy}
use Rattle.virtual_words.specs.Words.{IsWhole, copy_steps}
use Rattle.cf_model.specs.ExactCosts.{carrying_cost, leaving_cost, resize_cost, resized_cost, tail_steps}
use Rattle.page_slots.specs.Leaving.{Leaves, Parts, leaving_steps}
use Rattle.paged_heap.proofs.LeftSlot.{parts_of, slot}
use Rattle.paged_heap.specs.Heap.{Heap}
use Rattle.paged_heap.specs.Layout.{IsValid, held_in, order_in, paging_at, state_of, tables_in, owner_in}
use Rattle.paged_heap.specs.ResizeClass.{EntersAt, IsChange, changing_cost, entering_cost, kept_words, old_words}
use Rattle.paged_heap.specs.declared.resize_class.Change.{Change}
use Rattle.paged_heap.proofs.CostLemmas.{leaving_is, takes_by}
use Rattle.paged_heap.proofs.CountLimits.{page_small}
use Rattle.paged_heap.proofs.LayoutFacts.{paging_ok, tables_ok, owns, table_is}
use Rattle.paged_heap.proofs.StepLemmas.{copy_along, tail_along}
use Rattle.paged_heap.proofs.TakeKeeps.{drop_keeps, fill_keeps, lists_keep}
use Rattle.paged_heap.proofs.WholeBlocks.{whole_slot}
use Rattle.page_slots.proofs.CallerLemmas.{it, it_found, it_class, it_used, as_many}
use Rattle.page_slots.specs.Owner.{IsObjectAt}

module _ {h : Heap} (k : IsValid h) {x : Change} (is : IsChange h x) where
  -- the steps of taking a slot and copying the object there
  pub entering_sum : (b : ℕ) (new : Tables) → TakesAt h.classes (tables_in h) x.to b new → IsWhole h.kind b → (s t u : ℕ)
      → RoseBy s t (take_slot_steps h.classes (tables_in h) x.to)
      → RoseBy t u (copy_steps h.kind (x.place + 1) (kept_words x) + tail_steps h.kind b x.bytes (8 * kept_words x) + word_steps h.kind + 1)
      → RoseBy s u (entering_cost h x)
  entering_sum b new taken whole s t u r1 r2 =
      let take = takes_by h k x.to b new is.in_range taken in
      let along = copy_along h.kind x.place 1 (x.place + 1) (kept_words x) (whole_slot h k x.handle.0 (it (owns k) is.object)
      (it_found (owns k) is.object)).0 (omega arith) in
      let tail = tail_along h.kind b x.bytes (8 * kept_words x) whole in
      rose_by s u _ _ (omega arith) (rose_both s t u _ _ r1 r2)

  in_to : x.to < length h.classes.sizes
  in_to = (let lt = is.in_range in let e = as_many (paging_at h) (table_is h k) in omega arith)

  module _ {b : ℕ} {n : Heap} (en : EntersAt h x b n) where
    differ : x.class ≡ x.to → ⊥
    differ e = is.other (sym e)

    used_of : IsOf (tables_in h) x.class (page_at h.classes x.place)
    used_of = (it_used (owns k) is.object).of

    -- the steps if then the old slot is left (`leave_slot`)
    pub left_sum : {words : ℕ} → words ≡ old_words h x → (m : Parts) (r : Option Handle) → Leaves (parts_of n) (slot words x.class x.place) r m → (s t u : ℕ)
        → RoseBy s t (entering_cost h x) → RoseBy t u (leaving_steps n.kind (parts_of n) (slot words x.class x.place) r)
        → RoseBy s u (entering_cost h x + leaving_cost (state_of h) (order_in h) (it (owns k) is.object) r)
    left_sum {words} long m r left s t u r1 r2 =
        let drop = drop_keeps h.classes (tables_in h) (tables_in n) (tables_ok h k) en.tables x.to b in_to en.taken x.class differ (page_at h.classes x.place) used_of in
        let fill = fill_keeps h.classes (tables_in h) (tables_in n) (tables_ok h k) en.tables x.to b in_to en.taken x.class differ in
        let same = leaving_is k is.object long n en.kind en.classes drop fill r (front r left) in
        rose_by s u _ _ (ap (λ n. entering_cost h x + n) same) (rose_both s t u _ _ r1 r2)
      where
        front : (r : Option Handle) → Leaves (parts_of n) (slot words x.class x.place) r m → IsSome r → (page : ℕ) × (slice_get (pages_in h.lists x.class NotFull) 0 ≡ Some page)
        front None left none = absurd (false≢true none)
        front (Some y) left some = (
          left.filled.page,
          ap (λ (pages : List ℕ). slice_get pages 0)
              (sym (lists_keep h.classes (tables_in h) (tables_in n) (tables_ok h k) en.tables x.to b in_to en.taken x.class differ NotFull)) ∙ left.filled.front,
        )

  -- the steps of a resize to another class
  pub change_sum : (r : Result Resized ResizeFault) → IfErr r (λ e. e ≡ resize.Space) → (s t u v w z : ℕ) → RoseBy s t 1 → RoseBy t u 1
      → RoseBy u v (word_steps h.kind) → RoseBy v w 1 → RoseBy w z (1 + changing_cost h x r)
      → RoseBy s z (resize_cost (state_of h) (order_in h) (record { number = x.handle.0; length = x.bytes }) r)
  change_sum (Ok done) cause s t u v w z r1 r2 r3 r4 r5 =
      let p = paging_at h in let o = it (owns k) is.object in
      let found : resize_cost (state_of h) (order_in h) (record { number = x.handle.0; length = x.bytes }) (Ok done)
      ≡ resized_cost (state_of h) (order_in h) x.bytes o done.moved =
      ap (λ (m : Option Placed). elim m [ None ↦ 0 | Some y ↦ resized_cost (state_of h) (order_in h) x.bytes y done.moved ]) (it_found (owns k) is.object) in
      let other : nat_eq (class_for p x.bytes) (class_at p o) ≡ false =
      eq_no (class_for p x.bytes) (class_at p o) (λ e. is.other (sym is.class ∙ e ∙ it_class (owns k) is.object)) in
      let total : resized_cost (state_of h) (order_in h) x.bytes o done.moved ≡ 4 + word_steps h.kind
      + Order.steps_to_take p (held_in h) (order_in h) (class_for p x.bytes) + carrying_cost h.kind (length o.bytes) x.bytes
      + leaving_cost (state_of h) (order_in h) o done.moved =
      ap (λ b. if b then 3 + 2 * word_steps h.kind + tail_steps h.kind 0 x.bytes (length o.bytes) else 4 + word_steps h.kind
      + Order.steps_to_take p (held_in h) (order_in h) (class_for p x.bytes) + carrying_cost h.kind (length o.bytes) x.bytes
      + leaving_cost (state_of h) (order_in h) o done.moved) other in
      let to = ap (Order.steps_to_take p (held_in h) (order_in h)) is.class in
      let long = ap (λ m. carrying_cost h.kind m x.bytes) is.object.long in
      rose_by s z _ _ (omega arith) (rose_both s w z _ _ (rose_both s v w _ _ (rose_both s u v _ _ (rose_both s t u _ _ r1 r2) r3) r4) r5)
  change_sum (Err e) cause s t u v w z r1 r2 r3 r4 r5 =
      subst (λ f. RoseBy s z (resize_cost (state_of h) (order_in h) (record { number = x.handle.0; length = x.bytes }) (Err f))) (sym cause)
      (rose_by s z _ _ (omega arith) (rose_both s w z _ _ (rose_both s v w _ _ (rose_both s u v _ _ (rose_both s t u _ _ r1 r2) r3) r4) r5))

-- the steps of a resize in the same slot
pub stay_sum : (h : Heap) (k : IsValid h) {q a size c : ℕ} (o : IsObjectAt (owner_in h) q a size c) (n : ℕ) → class_for (paging_at h) n ≡ c → (done : Resized)
    → (s t u v w z : ℕ) → RoseBy s t 1 → RoseBy t u 1 → RoseBy u v (word_steps h.kind) → RoseBy v w 1
    → RoseBy w z (tail_steps h.kind a n size + word_steps h.kind)
    → RoseBy s z (resize_cost (state_of h) (order_in h) (record { number = q; length = n }) (Ok done))
stay_sum h k {q} {a} {size} {c} o n same done s t u v w z r1 r2 r3 r4 r5 =
    let p = paging_at h in let y = it (owns k) o in
    let found : resize_cost (state_of h) (order_in h) (record { number = q; length = n }) (Ok done) ≡ resized_cost (state_of h) (order_in h) n y done.moved =
    ap (λ (m : Option Placed). elim m [ None ↦ 0 | Some y ↦ resized_cost (state_of h) (order_in h) n y done.moved ]) (it_found (owns k) o) in
    let one : nat_eq (class_for p n) (class_at p y) ≡ true = eq_yes (class_for p n) (class_at p y) (same ∙ sym (it_class (owns k) o)) in
    let total : resized_cost (state_of h) (order_in h) n y done.moved ≡ 3 + 2 * word_steps h.kind + tail_steps h.kind 0 n (length y.bytes) =
    ap (λ b. if b then 3 + 2 * word_steps h.kind + tail_steps h.kind 0 n (length y.bytes) else 4 + word_steps h.kind
    + Order.steps_to_take p (held_in h) (order_in h) (class_for p n) + carrying_cost h.kind (length y.bytes) n
    + leaving_cost (state_of h) (order_in h) y done.moved) one in
    let along = tail_along h.kind a n size (whole_slot h k q y (it_found (owns k) o)).0 in
    let long = ap (tail_steps h.kind 0 n) o.long in
    rose_by s z _ _ (omega arith) (rose_both s w z _ _ (rose_both s v w _ _ (rose_both s u v _ _ (rose_both s t u _ _ r1 r2) r3) r4) r5)

-- the most steps of a resize are below 2^62
pub few_resize : (h : Heap) (k : IsValid h) (q n : ℕ) (r : Result Resized ResizeFault) (s : HeapState)
    → IsResizeStep (state_of h) (record { number = q; length = n }) r s → resize_bound r < 2 ^ 62
few_resize h k q n (Ok done) s g =
    let p = paging_at h in
    let was = slot_fits p (paging_ok h k) (class_at p g.object) (k.sound.slots q g.object g.found).class in
    let now = slot_fits p (paging_ok h k) (class_for p n) (class_fits p (paging_ok h k) n g.fits) in
    let small = page_small h k in
    let e = g.old_slot in let f = g.slot in
    omega arith
few_resize h k q n (Err e) s g = omega arith
