-- For `clear_slice` and `move_slice`: the object that moves has an address; the words that a slice clears or moves lie in the region, don't overlap their new
-- places, and are those of the model. After the job's last slice the words are right without the job, and its slot is all zeros.
use Rattle.std.proofs.Common.{◌≡◌, ℕ, ◌+◌, ◌-◌, ◌≤◌, List, length, get_or, Some, None, arith, refl, sym, ◌∙◌, ap, subst}
use Rattle.std.specs.Prelude.{min}
use Rattle.std.specs.FinMap.{get}
use Rattle.page_model.specs.Arrangement.{class_at}
use Rattle.page_model.specs.Held.{Placed}
use Rattle.page_model.specs.Image.{Clears, IsDisjoint, MovesWords, slot_for}
use Rattle.page_model.specs.Paging.{slot_words}
use Rattle.size_classes.specs.Table.{ClassTable}
use Rattle.slice_model.specs.declared.job_slot.JobSlot.{JobSlot}
use Rattle.slice_model.specs.State.{IsKept, Clear, Move}
use Rattle.slice_model.specs.Words.{DoesWords, HasWords}
use Rattle.slice_model.proofs.CallerLemmas.{job_within, object_within}
use Rattle.sliced_heap.specs.Heap.{Heap}
use Rattle.sliced_heap.specs.Layout.{IsValid, plan_of, sliced_paging, sliced_state_of}
use Rattle.sliced_heap.proofs.Facts.{place_known, plan_ok}
use Rattle.sliced_heap.proofs.HeldFromWords.{AreEnded, cleared_all, moved_all, parts_apart}

module _ (h : Heap) (k : IsValid h) (g : JobSlot) where
  sizes_are : get_or h.classes.sizes g.class 0 ≡ slot_words (sliced_paging h) g.class
  sizes_are = ap (λ (t : ClassTable). get_or t.sizes g.class 0) k.table

  -- the words of a slice are in the job's slot
  count_fits : (n : ℕ) → n ≡ min h.quantum (get_or h.classes.sizes g.class 0 - g.done) → g.done ≤ slot_words (sliced_paging h) g.class
      → g.done + n ≤ slot_words (sliced_paging h) g.class
  count_fits n n_is le = (let e = sizes_are in omega arith)

  module _ (at : h.job ≡ Clear g) where
    kept_at : IsKept (plan_of h) (record { held = (sliced_state_of h).held; job = Clear g })
    kept_at = subst (λ j. IsKept (plan_of h) (record { held = (sliced_state_of h).held; job = j })) at k.kept

    pub clear_within : (n : ℕ) → n ≡ min h.quantum (get_or h.classes.sizes g.class 0 - g.done) → g.address + g.done + n ≤ length h.words
    clear_within n n_is =
        let some = kept_at.job.under_way in
        let f = count_fits n n_is (omega arith) in
        let l = job_within (plan_of h) (plan_ok h k) (sliced_state_of h).held (Clear g) kept_at g refl in
        let long = k.words_long in
        omega arith

    pub clear_ended : (w : List ℕ) (n : ℕ) → Clears h.words w (record { from = g.address + g.done; count = n }) → g.done + n ≡ slot_words (sliced_paging h) g.class
        → AreEnded (sliced_paging h) (sliced_state_of h).held g w
    clear_ended w n clears all = cleared_all (plan_of h) (plan_ok h k) (sliced_state_of h).held g h.words w n all kept_at
        (subst (λ j. HasWords (sliced_paging h) (record { held = (sliced_state_of h).held; job = j }) h.words) at k.words) clears

  module _ (q : ℕ) (at : h.job ≡ Move q g) where
    kept_move : IsKept (plan_of h) (record { held = (sliced_state_of h).held; job = Move q g })
    kept_move = subst (λ j. IsKept (plan_of h) (record { held = (sliced_state_of h).held; job = j })) at k.kept

    abbrev o : (x : Placed) × (get (sliced_state_of h).held q ≡ Some x) × (class_at (sliced_paging h) x ≡ g.class)
    o = kept_move.job.1

    -- the object that moves has an address
    pub move_known : None ≡ get h.proxies.places q → ⊥
    move_known none = (let z : None ≡ Some o.0.place = none ∙ place_known h k q o.0 o.1 in cc)

    module _ (to : ℕ) (known : Some to ≡ get h.proxies.places q) where
      to_is : o.0.place ≡ to
      to_is = (let z : Some to ≡ Some o.0.place = known ∙ place_known h k q o.0 o.1 in cc)

      module _ (n : ℕ) (n_is : n ≡ min h.quantum (get_or h.classes.sizes g.class 0 - g.done)) where
        fits : g.done + n ≤ slot_words (sliced_paging h) g.class
        fits = (let some = kept_move.job.0.under_way in count_fits n n_is (omega arith))

        pub move_source : g.address + g.done + n ≤ length h.words
        move_source =
            let f = fits in
            let l = job_within (plan_of h) (plan_ok h k) (sliced_state_of h).held (Move q g) kept_move g refl in
            let long = k.words_long in
            omega arith

        pub move_target : to + g.done + n ≤ length h.words
        move_target =
            let f = fits in
            let l = object_within (plan_of h) (plan_ok h k) (sliced_state_of h).held (Move q g) kept_move q o.0 o.1 in
            let size : slot_for (sliced_paging h) (length o.0.bytes) ≡ slot_words (sliced_paging h) g.class = ap (slot_words (sliced_paging h)) o.2 in
            let long = k.words_long in
            let e = to_is in
            omega arith

        pub move_apart : IsDisjoint (g.address + g.done) n (to + g.done) n
        move_apart = subst (λ a. IsDisjoint (g.address + g.done) n (a + g.done) n) to_is
            (parts_apart (plan_of h) (plan_ok h k) (sliced_state_of h).held q g kept_move o.0 o.1 o.2 n fits)

      module _ (w : List ℕ) (n : ℕ) (moves : MovesWords h.words w (record { from = g.address + g.done; count = n }) (to + g.done)) where
        moves_so : MovesWords h.words w (record { from = g.address + g.done; count = n }) (o.0.place + g.done)
        moves_so = subst (λ a. MovesWords h.words w (record { from = g.address + g.done; count = n }) (a + g.done)) (sym to_is) moves

        pub move_does : DoesWords (sliced_state_of h).held (Move q g) n h.words w
        move_does = (o.0, o.1, moves_so)

        pub move_ended : g.done + n ≡ slot_words (sliced_paging h) g.class → AreEnded (sliced_paging h) (sliced_state_of h).held g w
        move_ended all = moved_all (plan_of h) (plan_ok h k) (sliced_state_of h).held g h.words w n all q o.0 o.1 o.2 kept_move
            (subst (λ j. HasWords (sliced_paging h) (record { held = (sliced_state_of h).held; job = j }) h.words) at k.words) moves_so
