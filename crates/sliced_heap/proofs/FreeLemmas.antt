-- For `free_live`: a free is its three parts, the removal, the filling of the slot if it must be filled, and a slice; whether and which object moves is as the
-- model and the order require, and its steps are those of the model.
use Rattle.std.proofs.Common.{◌≡◌, ◌≢◌, ℕ, ◌+◌, ◌*◌, ◌-◌, ◌<◌, ◌∷◌, replicate, Bool, true, false, Some, None, arith, refl, sym, ◌∙◌, ap, subst, inl, inr}
use Rattle.std.specs.Prelude.{if◌then◌else◌}
use Rattle.std.proofs.lemmas.Bool.{cases_eq}
use Rattle.std.specs.FinMap.{get, insert, remove}
use Rattle.cf_base.proofs.Maps.{get_inserted, get_insert_other, get_remove_other, some_inserted, some_removed}
use Rattle.page_model.specs.Arrangement.{IsSound, class_at, not_full_pages, objects_on}
use Rattle.page_model.specs.Held.{Held, Placed}
use Rattle.page_model.specs.Order.{Order, IsNextToMove, IsTaken, drop_steps, steps_to_drop, steps_to_fill}
use Rattle.page_model.specs.Paging.{Paging, page_of, slot_words, slots_of}
use Rattle.page_model.specs.Steps.{Moves, MustMove}
use Rattle.page_model.proofs.CallerLemmas.{not_full-same, objects_on-exchanged}
use Rattle.slice_model.specs.State.{Sliced, job_slot, occupied, placeholder, with_slot, Clear, Idle, Move}
use Rattle.slice_model.specs.Steps.{BeginsMove, fresh_slot}
use Rattle.slice_model.specs.Ordered.{FreesInOrder, SlicesInOrder}
use Rattle.slice_model.proofs.CallerLemmas.{no_placeholder, other_than, same_elsewhere, placeholder_class}
use Rattle.slice_model.specs.declared.job_slot.JobSlot.{JobSlot}
use Rattle.step_ledger.specs.Counting.{RoseBy}
use Rattle.step_ledger.proofs.CallerLemmas.{rose_both, rose_by}
use Rattle.sliced_heap.specs.Costs.{end_cost, freed_cost, job_cost, must_move, removing_cost, slice_cost, words_steps}
use Rattle.sliced_heap.specs.Heap.{Heap}
use Rattle.sliced_heap.specs.Layout.{IsValid, plan_of, sliced_order_in, sliced_paging, sliced_state_of, working_of}
use Rattle.sliced_heap.specs.Steps.{FillsSlot, StartsClearing, IsFilled, StaysVacant}
use Rattle.sliced_heap.proofs.Facts.{paging_ok, plan_ok}
use Rattle.sliced_heap.proofs.Headers.{in_class}
use Rattle.sliced_heap.proofs.StepCounts.{fill_counted, must_no, must_yes}

module _ (h : Heap) (k : IsValid h) (idle : h.job ≡ Idle) (q : ℕ) (x : Placed) (there : get (sliced_state_of h).held q ≡ Some x) where
  abbrev m : Held
  m = (sliced_state_of h).held

  abbrev c : ℕ
  c = class_at (sliced_paging h) x

  abbrev g : JobSlot
  g = fresh_slot x.place c

  abbrev all : Held
  all = insert (remove m q) h.settings.proxies (placeholder (sliced_paging h) g)

  stand_class : class_at (sliced_paging h) (placeholder (sliced_paging h) g) ≡ c
  stand_class = placeholder_class (sliced_paging h) (paging_ok h k) g (in_class h k q x there)

  none_left : get (remove m q) h.settings.proxies ≡ None
  none_left =
      let none = no_placeholder (plan_of h) m k.kept.numbers in
      get_remove_other m q h.settings.proxies (λ e. other_than m h.settings.proxies q x none there (sym e)) ∙ none

  -- with the slot's placeholder in place of the freed object each page holds as many objects of each class as before
  same_counts : (d page : ℕ) → objects_on (sliced_paging h) all d page ≡ objects_on (sliced_paging h) m d page
  same_counts d page = objects_on-exchanged (sliced_paging h) m q x there h.settings.proxies
      (replicate (8 * (slot_words (sliced_paging h) c - 1)) 0) none_left stand_class d page

  same_open : not_full_pages (sliced_paging h) all c ≡ not_full_pages (sliced_paging h) m c
  same_open = not_full-same (sliced_paging h) m all c (λ page. same_counts c page)

  -- so the placeholder's slot must be filled if and only if the freed object's slot must be
  pub must_of_placeholder : MustMove (sliced_paging h) (insert (remove (sliced_state_of h).held q) h.settings.proxies
      (placeholder (sliced_paging h) (fresh_slot x.place (class_at (sliced_paging h) x))))
      (placeholder (sliced_paging h) (fresh_slot x.place (class_at (sliced_paging h) x))) → MustMove (sliced_paging h) (sliced_state_of h).held x
  must_of_placeholder must = record {
    full = sym (same_counts c (page_of (sliced_paging h) x.place)) ∙ rw stand_class at must.full;
    several = rw stand_class at must.several;
    many = sym same_open ∙ rw stand_class at must.many;
  }

  pub stand_of_must : MustMove (sliced_paging h) (sliced_state_of h).held x → MustMove (sliced_paging h)
      (insert (remove (sliced_state_of h).held q) h.settings.proxies (placeholder (sliced_paging h) (fresh_slot x.place (class_at (sliced_paging h) x))))
      (placeholder (sliced_paging h) (fresh_slot x.place (class_at (sliced_paging h) x)))
  stand_of_must must = record {
    full = rw stand_class (same_counts c (page_of (sliced_paging h) x.place) ∙ must.full);
    several = rw stand_class must.several;
    many = rw stand_class (same_open ∙ must.many);
  }

  -- the addresses of objects, with the placeholder's, are the same as before
  taken_alone : (a : ℕ) → IsTaken all a → IsTaken m a
  taken_alone a (r, y, there', is) = elim (some_inserted (remove m q) h.settings.proxies (placeholder (sliced_paging h) g) r y there') [
    | inl (_, same) ↦ (q, x, there, ap (λ (z : Placed). z.place) same ∙ is)
    | inr (_, was) ↦ (r, y, (some_removed m q r y was).1, is)
  ]

  taken_beside : (a : ℕ) → IsTaken m a → IsTaken all a
  taken_beside a (r, y, there', is) = elim (cases_eq r q) [
    | inl same ↦ (
        let e : Some y ≡ Some x = sym there' ∙ ap (get m) same ∙ there in
        let one : y ≡ x = cc in (
          h.settings.proxies,
          placeholder (sliced_paging h) g,
          get_inserted (remove m q) h.settings.proxies (placeholder (sliced_paging h) g),
          ap (λ (z : Placed). z.place) (sym one) ∙ is,
        ))
    | inr ne ↦ (
      r,
      y,
      get_insert_other (remove m q) h.settings.proxies (placeholder (sliced_paging h) g) r
          (other_than m h.settings.proxies r y (no_placeholder (plan_of h) m k.kept.numbers) there')
          ∙ get_remove_other m q r ne ∙ there',
      is,
    )
  ]

  -- so the object that the order lists next to move is the same
  next_alone : (o : Order) (y : Placed) → IsNextToMove (sliced_paging h) all (record o { spare = q ∷ o.spare }) c y → IsNextToMove (sliced_paging h) m o c y
  next_alone o y n = record {
    page = n.page;
    slot = n.slot;
    rest = n.rest;
    front = n.front;
    least = record { taken = taken_alone _ n.least.taken; least = λ s lt t. n.least.least s lt (taken_beside _ t) };
    address = n.address;
  }

  -- heap a after `start_clearing`, heap b after `fill`, heap n after the slice
  module _ (a n : Heap) (f : StartsClearing h q g a) (ka : IsValid a) where
    occupied_is : occupied (plan_of a) (sliced_state_of a) ≡ all
    occupied_is = ap (λ p. occupied p (sliced_state_of a)) f.plan ∙ ap (occupied (plan_of h)) f.state

    held_is : (sliced_state_of a).held ≡ remove m q
    held_is = ap (λ (z : Sliced). z.held) f.state

    pages_are : sliced_paging a ≡ sliced_paging h
    pages_are = ap (λ p. p.paging) f.plan

    vacant_moves : (b : Heap) → StaysVacant a g b → Moves (sliced_paging h) m x None
    vacant_moves b v must = v.stays (subst (λ p. MustMove p (occupied (plan_of a) (sliced_state_of a)) (placeholder p g)) (sym pages_are)
        (subst (λ o. MustMove (sliced_paging h) o (placeholder (sliced_paging h) g)) (sym occupied_is) (stand_of_must must)))

    filled_must : (b : Heap) → IsFilled a g b → MustMove (sliced_paging h) m x
    filled_must b v = must_of_placeholder (subst (λ o. MustMove (sliced_paging h) o (placeholder (sliced_paging h) g)) occupied_is
        (subst (λ p. MustMove p (occupied (plan_of a) (sliced_state_of a)) (placeholder p g)) pages_are v.must))

    -- the object that moves is of the same class, on a page that isn't full with the freed object there
    left_there : (b : Heap) → (v : IsFilled a g b) → get (remove m q) v.object ≡ Some v.beside.object
    left_there b v = ap (λ n. get n v.object) (sym held_is) ∙ v.beside.found

    filled_less : (b : Heap) → (v : IsFilled a g b) → objects_on (sliced_paging h) m c (page_of (sliced_paging h) v.beside.object.place) < slots_of (sliced_paging h) c
    filled_less b v =
        let apart : page_of (sliced_paging h) v.beside.object.place ≢ page_of (sliced_paging h) x.place =
        subst (λ p. page_of p v.beside.object.place ≢ page_of p x.place) pages_are v.beside.page in
        let less : objects_on (sliced_paging h) (remove m q) c (page_of (sliced_paging h) v.beside.object.place) < slots_of (sliced_paging h) c =
        subst (λ n. objects_on (sliced_paging h) n c (page_of (sliced_paging h) v.beside.object.place) < slots_of (sliced_paging h) c) held_is
        (subst (λ p. objects_on p (sliced_state_of a).held c (page_of p v.beside.object.place) < slots_of p c) pages_are v.beside.not_full) in
        let sound : IsSound (sliced_paging h) all = subst (IsSound (sliced_paging h)) occupied_is
        (subst (λ p. IsSound p (occupied (plan_of a) (sliced_state_of a))) pages_are ka.kept.sound) in
        let same = same_elsewhere (plan_of h) (plan_ok h k) (remove m q) g none_left (in_class h k q x there) sound
        (page_of (sliced_paging h) v.beside.object.place) apart in
        let with_x = same_counts c (page_of (sliced_paging h) v.beside.object.place) in
        omega arith

    filled_moves : (b : Heap) → (v : IsFilled a g b) → Moves (sliced_paging h) m x (Some v.object)
    filled_moves b v =
        let y_there : get m v.object ≡ Some v.beside.object = (some_removed m q v.object v.beside.object (left_there b v)).1 in
        let class : class_at (sliced_paging h) v.beside.object ≡ c = ap (λ p. class_at p v.beside.object) (sym pages_are) ∙ v.beside.class in
        (filled_must b v, (v.beside.object, y_there, record { class = class; not_full = filled_less b v }))

    filled_next : (b : Heap) → (v : IsFilled a g b) → IsNextToMove (sliced_paging h) m (sliced_order_in h) c v.beside.object
    filled_next b v = next_alone (sliced_order_in h) v.beside.object
        (subst (λ o. IsNextToMove (sliced_paging h) all o c v.beside.object) f.order
        (subst (λ o. IsNextToMove (sliced_paging h) o (sliced_order_in a) c v.beside.object) occupied_is
        (subst (λ p. IsNextToMove p (occupied (plan_of a) (sliced_state_of a)) (sliced_order_in a) c v.beside.object) pages_are v.next)))

    -- the slice of the free
    module _ (b : Heap) (s : SlicesInOrder (plan_of b) (working_of b) (working_of n) (sliced_order_in b) (sliced_order_in n)) where
      slice_now : plan_of b ≡ plan_of h → b.words ≡ h.words → sliced_order_in b ≡ record (sliced_order_in h) { spare = q ∷ (sliced_order_in h).spare }
          → SlicesInOrder (plan_of h) (record { state = sliced_state_of b; words = h.words }) (working_of n) (record (sliced_order_in h) { spare = q ∷ (sliced_order_in h).spare })
          (sliced_order_in n)
      slice_now plan words order =
          subst (λ o. SlicesInOrder (plan_of h) (record { state = sliced_state_of b; words = h.words }) (working_of n) o (sliced_order_in n)) order
          (subst (λ w. SlicesInOrder (plan_of h) (record { state = sliced_state_of b; words = w }) (working_of n) (sliced_order_in b) (sliced_order_in n)) words
          (subst (λ p. SlicesInOrder p (working_of b) (working_of n) (sliced_order_in b) (sliced_order_in n)) plan s))

      vacant_frees : StaysVacant a g b → FreesInOrder (plan_of h) (working_of h) q (working_of n) (sliced_order_in h) (sliced_order_in n)
      vacant_frees v =
          let state_b : sliced_state_of b ≡ record { held = remove m q; job = Clear g } = ap sliced_state_of v.same ∙ f.state in
          let s' = slice_now (ap plan_of v.same ∙ f.plan) (ap (λ (z : Heap). z.words) v.same ∙ f.words) (ap sliced_order_in v.same ∙ f.order) in
          record {
            frees = record {
              removes = record {
                idle = idle;
                freed = x;
                found = there;
                moved = None;
                moves = vacant_moves b v;
                begun = sliced_state_of b;
                begins = state_b;
                slice = s'.slices.slice;
              };
              words = s'.slices.words;
            };
            next = tt;
            follows = s'.follows;
          }

      filled_frees : IsFilled a g b → FreesInOrder (plan_of h) (working_of h) q (working_of n) (sliced_order_in h) (sliced_order_in n)
      filled_frees v =
          let carries = subst (λ n. BeginsMove n v.object x.place c (sliced_state_of b)) held_is v.carries in
          let s' = slice_now (v.plan ∙ f.plan) (v.words ∙ f.words) (v.order ∙ f.order) in
          let y_left : get (remove m q) v.object ≡ Some v.beside.object = ap (λ n. get n v.object) (sym held_is) ∙ v.beside.found in
          record {
            frees = record {
              removes = record {
                idle = idle;
                freed = x;
                found = there;
                moved = Some v.object;
                moves = filled_moves b v;
                begun = sliced_state_of b;
                begins = carries;
                slice = s'.slices.slice;
              };
              words = s'.slices.words;
            };
            next = (v.beside.object, (some_removed m q v.object v.beside.object y_left).1, filled_next b v);
            follows = s'.follows;
          }

      pub frees : (filled : Bool) → FillsSlot a g filled b → FreesInOrder (plan_of h) (working_of h) q (working_of n) (sliced_order_in h) (sliced_order_in n)
      frees true v = filled_frees v
      frees false v = vacant_frees v

  -- the steps of the first slice, by the objects before the free
  module _ (a b : Heap) (f : StartsClearing h q g a) (ka : IsValid a) where
    abbrev p : Paging
    p = sliced_paging h

    abbrev size : ℕ
    size = slot_words (sliced_paging h) c

    whole_slot : slot_words (sliced_paging h) c - 0 ≡ slot_words (sliced_paging h) c
    whole_slot = omega arith

    vacant_slice : StaysVacant a g b
        → slice_cost (plan_of b) (sliced_state_of b) ≡ words_steps h.quantum size (1 + steps_to_drop p m c (page_of p x.place))
    vacant_slice v =
        let state : sliced_state_of b ≡ record { held = remove m q; job = Clear g } = ap sliced_state_of v.same ∙ f.state in
        let plan : plan_of b ≡ plan_of h = ap plan_of v.same ∙ f.plan in
        let no' = must_no p all (placeholder p g) (λ must. vacant_moves a a f ka b v (must_of_placeholder must)) in
        let ends : end_cost (plan_of h) (remove m q) g ≡ 1 + steps_to_drop p all c (page_of p x.place) = rw (end_cost, no') refl in
        let drop : steps_to_drop p all c (page_of p x.place) ≡ steps_to_drop p m c (page_of p x.place) =
        ap (λ n. drop_steps n (slots_of p c)) (same_counts c (page_of p x.place)) in
        ap (λ l. slice_cost l (sliced_state_of b)) plan ∙ ap (slice_cost (plan_of h)) state
        ∙ ap (λ n. words_steps h.quantum n (end_cost (plan_of h) (remove m q) g)) whole_slot
        ∙ ap (words_steps h.quantum size) (ends ∙ ap (λ n. 1 + n) drop)

    module _ (v : IsFilled a g b) where
      abbrev y : Placed
      y = v.carries.object

      abbrev g' : JobSlot
      g' = fresh_slot v.carries.object.place c

      same_object : v.beside.object ≡ v.carries.object
      same_object = (let e : Some v.beside.object ≡ Some v.carries.object = sym v.beside.found ∙ v.carries.found in cc)

      plan_is : plan_of b ≡ plan_of h
      plan_is = v.plan ∙ f.plan

      job_is : (sliced_state_of b).job ≡ Move v.object (fresh_slot v.carries.object.place c)
      job_is = ap (λ (s : Sliced). s.job) v.carries.whole

      abbrev beside : Held
      beside = with_slot (plan_of h) (sliced_state_of b).held (Some g')

      -- each page holds as many objects as before the free, the placeholder among them
      counts_now : (d page : ℕ) → objects_on p beside d page ≡ objects_on p m d page
      counts_now d page =
          let is : occupied (plan_of b) (sliced_state_of b) ≡ beside =
          ap (λ l. occupied l (sliced_state_of b)) plan_is ∙ ap (λ j. with_slot (plan_of h) (sliced_state_of b).held (job_slot j)) job_is in
          ap (λ o. objects_on p o d page) (sym is)
          ∙ subst (λ p. objects_on p (occupied (plan_of b) (sliced_state_of b)) d page ≡ objects_on p (occupied (plan_of a) (sliced_state_of a)) d page)
          (pages_are a a f ka) (v.counts d page)
          ∙ ap (λ o. objects_on p o d page) (occupied_is a a f ka) ∙ same_counts d page

      less_now : objects_on p m c (page_of p v.carries.object.place) < slots_of p c
      less_now = subst (λ (z : Placed). objects_on p m c (page_of p z.place) < slots_of p c) same_object (filled_less a a f ka b v)

      -- so no object must move into the slot that the moving object leaves
      none_follows : must_move p beside (placeholder p g') ≡ false
      none_follows = must_no p beside (placeholder p g') (λ must.
          let class = placeholder_class p (paging_ok h k) g' (in_class h k q x there) in
          let full : objects_on p beside c (page_of p v.carries.object.place) ≡ slots_of p c = rw class at must.full in
          let now = counts_now c (page_of p v.carries.object.place) in
          let less = less_now in
          absurd (omega arith))

      leaves_now : steps_to_fill p m (sliced_order_in h) c ≡ 2 + steps_to_drop p m c (page_of p v.carries.object.place)
      leaves_now =
          let in_pages : steps_to_fill p (occupied (plan_of a) (sliced_state_of a)) (sliced_order_in a) c
          ≡ 2 + steps_to_drop p (occupied (plan_of a) (sliced_state_of a)) c (page_of p v.beside.object.place) =
          subst (λ p. steps_to_fill p (occupied (plan_of a) (sliced_state_of a)) (sliced_order_in a) c
          ≡ 2 + steps_to_drop p (occupied (plan_of a) (sliced_state_of a)) c (page_of p v.beside.object.place)) (pages_are a a f ka) v.leaves in
          let in_objects : steps_to_fill p all (sliced_order_in a) c ≡ 2 + steps_to_drop p all c (page_of p v.beside.object.place) =
          subst (λ o. steps_to_fill p o (sliced_order_in a) c ≡ 2 + steps_to_drop p o c (page_of p v.beside.object.place)) (occupied_is a a f ka) in_pages in
          let in_order : steps_to_fill p all (sliced_order_in h) c ≡ 2 + steps_to_drop p all c (page_of p v.beside.object.place) =
          subst (λ o. steps_to_fill p all o c ≡ 2 + steps_to_drop p all c (page_of p v.beside.object.place)) f.order in_objects in
          sym (fill_counted p all m (sliced_order_in h) c (same_counts c)) ∙ in_order
          ∙ ap (λ n. 2 + drop_steps n (slots_of p c)) (same_counts c (page_of p v.beside.object.place))
          ∙ ap (λ (z : Placed). 2 + steps_to_drop p m c (page_of p z.place)) same_object

      ends_now : end_cost (plan_of h) (sliced_state_of b).held g' ≡ 1 + (steps_to_fill p m (sliced_order_in h) c - 2)
      ends_now =
          let no' = none_follows in
          let ends : end_cost (plan_of h) (sliced_state_of b).held g' ≡ 1 + steps_to_drop p beside c (page_of p v.carries.object.place) = rw (end_cost, no') refl in
          let drop : steps_to_drop p beside c (page_of p v.carries.object.place) ≡ steps_to_drop p m c (page_of p v.carries.object.place) =
          ap (λ n. drop_steps n (slots_of p c)) (counts_now c (page_of p v.carries.object.place)) in
          let fill = leaves_now in
          ends ∙ ap (λ n. 1 + n) drop ∙ (omega arith)

      filled_slice : slice_cost (plan_of b) (sliced_state_of b) ≡ 1 + words_steps h.quantum size (1 + (steps_to_fill p m (sliced_order_in h) c - 2))
      filled_slice =
          ap (λ l. slice_cost l (sliced_state_of b)) plan_is ∙ ap (job_cost (plan_of h) (sliced_state_of b).held) job_is
          ∙ ap (λ n. 1 + words_steps h.quantum n (end_cost (plan_of h) (sliced_state_of b).held g')) whole_slot
          ∙ ap (λ n. 1 + words_steps h.quantum size n) ends_now

    pub removing_takes : (filled : Bool) → FillsSlot a g filled b → (s t u w : ℕ) → RoseBy s t 4 → RoseBy t u (if filled then 6 else 1)
        → RoseBy u w (slice_cost (plan_of b) (sliced_state_of b)) → RoseBy s w (removing_cost (plan_of h) (sliced_state_of h) (sliced_order_in h) x)
    removing_takes true v s t u w starts fills slices =
        let yes = must_yes p m x (filled_must a a f ka b v) in
        let is : removing_cost (plan_of h) (sliced_state_of h) (sliced_order_in h) x ≡ 11 + words_steps h.quantum size (1 + (steps_to_fill p m (sliced_order_in h) c - 2)) =
        rw (removing_cost, yes) refl in
        let slice = filled_slice v in
        rose_by s w (4 + 6 + slice_cost (plan_of b) (sliced_state_of b)) (removing_cost (plan_of h) (sliced_state_of h) (sliced_order_in h) x) (omega arith)
        (rose_both s u w (4 + 6) _ (rose_both s t u 4 6 starts fills) slices)
    removing_takes false v s t u w starts fills slices =
        let no' = must_no p m x (vacant_moves a a f ka b v) in
        let is : removing_cost (plan_of h) (sliced_state_of h) (sliced_order_in h) x ≡ 5 + words_steps h.quantum size (1 + steps_to_drop p m c (page_of p x.place)) =
        rw (removing_cost, no') refl in
        let slice = vacant_slice v in
        rose_by s w (4 + 1 + slice_cost (plan_of b) (sliced_state_of b)) (removing_cost (plan_of h) (sliced_state_of h) (sliced_order_in h) x) (omega arith)
        (rose_both s u w (4 + 1) _ (rose_both s t u 4 1 starts fills) slices)

-- the steps of the whole free, from those of `start_clearing`, `fill` and `slice`
pub free_takes : (h : Heap) (k : IsValid h) → h.job ≡ Idle → (q : ℕ) (g : JobSlot) (a b : Heap) → StartsClearing h q g a → IsValid a → (filled : Bool)
    → FillsSlot a g filled b → (s t u w : ℕ) → RoseBy s t 4 → RoseBy t u (if filled then 6 else 1) → RoseBy u w (slice_cost (plan_of b) (sliced_state_of b))
    → RoseBy s w (freed_cost (plan_of h) (sliced_state_of h) (sliced_order_in h) q)
free_takes h k idle q g a b f ka filled fills s t u w starts filling slices =
    let same : g ≡ fresh_slot f.object.place (class_at (sliced_paging h) f.object) = f.slot in
    let f' : StartsClearing h q (fresh_slot f.object.place (class_at (sliced_paging h) f.object)) a = subst (λ g. StartsClearing h q g a) same f in
    let v' : FillsSlot a (fresh_slot f.object.place (class_at (sliced_paging h) f.object)) filled b = subst (λ g. FillsSlot a g filled b) same fills in
    let there = f.found in
    let is : freed_cost (plan_of h) (sliced_state_of h) (sliced_order_in h) q ≡ removing_cost (plan_of h) (sliced_state_of h) (sliced_order_in h) f.object = rw (freed_cost, there) refl in
    rose_by s w _ (freed_cost (plan_of h) (sliced_state_of h) (sliced_order_in h) q) (sym is)
    (removing_takes h k idle q f.object f.found a b f' ka filled v' s t u w starts filling slices)

-- the whole free, from the clauses of `start_clearing`, `fill` and `slice`
pub frees_from : (h : Heap) (k : IsValid h) → h.job ≡ Idle → (q : ℕ) (g : JobSlot) (a b n : Heap) → StartsClearing h q g a → IsValid a → (filled : Bool)
    → FillsSlot a g filled b
    → SlicesInOrder (plan_of b) (working_of b) (working_of n) (sliced_order_in b) (sliced_order_in n)
    → FreesInOrder (plan_of h) (working_of h) q (working_of n) (sliced_order_in h) (sliced_order_in n)
frees_from h k idle q g a b n f ka filled fills s =
    let same : g ≡ fresh_slot f.object.place (class_at (sliced_paging h) f.object) = f.slot in
    let f' : StartsClearing h q (fresh_slot f.object.place (class_at (sliced_paging h) f.object)) a = subst (λ g. StartsClearing h q g a) same f in
    let v' : FillsSlot a (fresh_slot f.object.place (class_at (sliced_paging h) f.object)) filled b = subst (λ g. FillsSlot a g filled b) same fills in
    frees h k idle q f.object f.found a n f' ka b s filled v'
