-- A resize keeps the arrangement sound. To another class it leaves what a free of the object leaves, and the object at a free address, with its new length and
-- its class (laws `a_resize_keeps_soundness` and `a_resize_in_two_steps`).
use Rattle.std.proofs.Common.{◌≡◌, ◌≢◌, ℕ, ◌-◌, List, Option, Some, None, length, take, replicate, arith, sym, ◌∙◌, inl, inr, ap, refl, subst, length-append}
use Rattle.std.proofs.lemmas.List.{length-replicate, length-take}
use Rattle.std.proofs.lemmas.Bool.{cases_eq}
use Rattle.std.specs.FinMap.{get, insert, remove}
use Rattle.cf_base.proofs.Maps.{equal_maps, get_inserted, get_insert_other, get_removed, get_remove_other}
use Rattle.cf_base.proofs.Sums.{insert_again}
use Rattle.page_model.specs.Held.{Held, Placed}
use Rattle.page_model.specs.Paging.{Paging, IsPaging, page_of, class_for}
use Rattle.page_model.specs.Arrangement.{class_at, objects_on, not_full_pages, IsSound}
use Rattle.page_model.specs.Steps.{Request, CallResult, IsFreePlace, MustMove, MayFill, Moves, without, resized, resized_at, ResizesInPlace, ChangesClass}
use Rattle.page_model.specs.Steps.{RefitsObject}
use Rattle.cf_base.proofs.Values.{still}
use Rattle.page_model.proofs.Counting.{not_full-same}
use Rattle.page_model.proofs.Placing.{sound_placed, objects_on-elsewhere}
use Rattle.page_model.proofs.Freeing.{sound_exchanged}
use Rattle.page_model.proofs.FreeSteps.{sound_without, mover_is_other}

pub length-resized : (v : List ℕ) (n : ℕ) → length (resized v n) ≡ n
length-resized v n = length-append (take n v) (replicate (n - length v) 0)
    ∙ (let a : length (replicate (n - length v) 0) ≡ n - length v = length-replicate {A = ℕ} (n - length v) 0 in let b = length-take n v in omega arith)

-- the class of a resized object is that of its new length
pub class-resized : (p : Paging) (a n : ℕ) (x : Placed) → class_at p (resized_at a x n) ≡ class_for p n
class-resized p a n x = ap (class_for p) (length-resized x.bytes n)

sound_in_place : (p : Paging) (old : Held) (asked : Request) (after : CallResult) → IsSound p old → ResizesInPlace p old asked after → IsSound p after.held
sound_in_place p old asked after s r =
    let x : Placed = r.object in
    let class : class_at p (resized_at r.object.place r.object asked.length) ≡ class_at p r.object = class-resized p r.object.place asked.length r.object
    ∙ r.same in
    let e = sound_exchanged p old asked.number r.object r.found asked.number (resized r.object.bytes asked.length) (get_removed old asked.number) class s in
    let again = insert_again old asked.number (resized_at r.object.place r.object asked.length) in
    let placed = r.placed in
    rw (placed, ← again) e

module _ (p : Paging) (ok : IsPaging p) (old : Held) (s : IsSound p old) (h n a spare : ℕ) (x : Placed) (found : get old h ≡ Some x)
    (other : class_for p n ≢ class_at p x)
    (unused : get old spare ≡ None) where
  abbrev new : Placed
  new = resized_at a x n

  abbrev with_both : Held
  with_both = insert old spare new

  spare_is_other : spare ≢ h
  spare_is_other is = (let e : get old h ≡ None = rw is at unused in absurd (let z : Some x ≡ None = sym found ∙ e in cc))

  found_still : get with_both h ≡ Some x
  found_still = (still old spare new unused h x found).1

  -- with the copy added, the object's old class has the same objects on each page as before
  same_on : (g : ℕ) → objects_on p with_both (class_at p x) g ≡ objects_on p old (class_at p x) g
  same_on g = objects_on-elsewhere p old spare new unused (class_at p x) g (inr (λ e. other (sym (class-resized p a n x) ∙ e)))

  same_not_full : not_full_pages p with_both (class_at p x) ≡ not_full_pages p old (class_at p x)
  same_not_full = not_full-same p old with_both (class_at p x) same_on

  must_still : MustMove p old x → MustMove p with_both x
  must_still m = record { full = same_on _ ∙ m.full; several = m.several; many = same_not_full ∙ m.many }

  must_before : MustMove p with_both x → MustMove p old x
  must_before m = record { full = sym (same_on _) ∙ m.full; several = m.several; many = sym same_not_full ∙ m.many }

  may_still : (y : Placed) → MayFill p old x y → MayFill p with_both x y
  may_still y may = record { class = may.class; not_full = (let e = same_on (page_of p y.place) in rw e may.not_full) }

  moves_still : (moved : Option ℕ) → Moves p old x moved → Moves p with_both x moved
  moves_still None never = λ m. never (must_before m)
  moves_still (Some q) (must, (y, there, may)) = (must_still must, (y, (still old spare new unused q y there).1, may_still y may))

  moves_before : (moved : Option ℕ) → Moves p with_both x moved → Moves p old x moved
  moves_before None never = λ m. never (must_still m)
  moves_before (Some q) (must, (y, there, may)) =
      let ne : q ≢ spare = (λ e. other (
      let there' : get with_both spare ≡ Some y = rw e at there in
      let z : Some new ≡ Some y = sym (get_inserted old spare new) ∙ there' in
      let same : ◌≡◌ {A = Placed} new y = cc in
      sym (class-resized p a n x) ∙ ap (class_at p) same ∙ may.class)) in (
        must_before must,
        (
          y,
          sym (get_insert_other old spare new q ne)
              ∙ there,
          record { class = may.class; not_full = (let e = same_on (page_of p y.place) in rw e at may.not_full) },
        ),
      )

  -- the free keeps the new object under its spare number, and leaves no object under h
  new_stays : IsFreePlace p old n a → (moved : Option ℕ) → Moves p with_both x moved
      → (get (without with_both h x.place moved) spare ≡ Some new) × (get (without with_both h x.place moved) h ≡ None)
  new_stays free None never = (get_remove_other with_both h spare spare_is_other ∙ get_inserted old spare new, get_removed with_both h)
  new_stays free (Some q) (must, (y, there, may)) =
      let sound : IsSound p with_both = sound_placed p old spare new unused ok s (let e = length-resized x.bytes n in rw e free) in
      let q_is_other : q ≢ h = mover_is_other p ok with_both sound h x found_still q y there must may in
      let ne : q ≢ spare = (λ e. other (
      let there' : get with_both spare ≡ Some y = rw e at there in
      let z : Some new ≡ Some y = sym (get_inserted old spare new) ∙ there' in
      let same : ◌≡◌ {A = Placed} new y = cc in
      sym (class-resized p a n x) ∙ ap (class_at p) same ∙ may.class)) in
      rw there (
        get_insert_other (remove with_both h) q _ spare (λ e. ne (sym e)) ∙ get_remove_other with_both h spare spare_is_other ∙ get_inserted old spare new,
        get_insert_other (remove with_both h) q _ h (λ e. q_is_other (sym e)) ∙ get_removed with_both h,
      )

  sound_changed : IsFreePlace p old n a → (moved : Option ℕ) → Moves p with_both x moved
      → IsSound p (insert (remove (without with_both h x.place moved) spare) h new)
  sound_changed free moved moves =
      let sound : IsSound p with_both = sound_placed p old spare new unused ok s (let e = length-resized x.bytes n in rw e free) in
      let left = sound_without p ok with_both sound h x found_still moved moves in
      let stays = new_stays free moved moves in
      let gone : get (remove (without with_both h x.place moved) spare) h ≡ None =
      get_remove_other (without with_both h x.place moved) spare h (λ e. spare_is_other (sym e)) ∙ stays.1 in
      sound_exchanged p (without with_both h x.place moved) spare new stays.0 h (resized x.bytes n) gone refl left

  -- the spare number leaves no trace: the objects are those after a free of h, with the resized object as h
  module _ (q : ℕ) where
    no_trace : (moved : Option ℕ) → Moves p old x moved → get (insert (remove (without with_both h x.place moved) spare) h new) q ≡ get
        (insert (without old h x.place moved) h new) q
    no_trace moved moves = elim (cases_eq q h) [
      | inl is ↦ rw is (get_inserted _ h new ∙ sym (get_inserted _ h new))
      | inr ne ↦ get_insert_other _ h new q ne ∙ elim (cases_eq q spare) [
        | inl is ↦ rw is (get_removed _ spare ∙ sym (nothing moved moves))
        | inr ne' ↦ get_remove_other _ spare q ne' ∙ same moved moves ne ne'
      ] ∙ sym (get_insert_other _ h new q ne)
    ]
      where
        nothing : (moved : Option ℕ) → Moves p old x moved → get (without old h x.place moved) spare ≡ None
        nothing None never = get_remove_other old h spare spare_is_other ∙ unused
        nothing (Some r) (must, (y, there, may)) = (
            let ne : spare ≢ r = λ e. (let there' : get old spare ≡ Some y = rw (← e) at there in absurd (let z : Some y ≡ None = sym there' ∙ unused in cc)) in
            rw there (get_insert_other (remove old h) r _ spare ne ∙ get_remove_other old h spare spare_is_other ∙ unused))

        same : (moved : Option ℕ) → Moves p old x moved → q ≢ h → q ≢ spare → get (without with_both h x.place moved) q ≡ get (without old h x.place moved) q
        same None never ne ne' = get_remove_other with_both h q ne ∙ get_insert_other old spare new q ne' ∙ sym (get_remove_other old h q ne)
        same (Some r) (must, (y, there, may)) ne ne' =
            let there' : get with_both r ≡ Some y = (still old spare new unused r y there).1 in
            rw (there, there') (elim (cases_eq q r) [
              | inl is ↦ rw is (get_inserted _ r _ ∙ sym (get_inserted _ r _))
              | inr nr ↦ get_insert_other _ r _ q nr ∙ get_remove_other with_both h q ne ∙ get_insert_other old spare new q ne'
                  ∙ sym (get_remove_other old h q ne) ∙ sym (get_insert_other _ r _ q nr)
            ])

-- A resize to another class as a manager does it: the resized object is at a free address, and the other objects are as a free of the old one leaves them.
pub changes_class : (p : Paging) → IsPaging p → (old : Held) → IsSound p old → (h n a spare : ℕ) (x : Placed) (moved : Option ℕ) → get old h ≡ Some x
    → class_for p n ≢ class_at p x → get old spare ≡ None
    → IsFreePlace p old n a → Moves p old x moved
    → ChangesClass p old (record { number = h; length = n }) (record { held = insert (without old h x.place moved) h (resized_at a x n); moved = moved })
changes_class p ok old s h n a spare x moved found other unused free moves = record {
  object = x;
  found = found;
  other = other;
  place = a;
  free = free;
  spare = spare;
  unused = unused;
  left = without (insert old spare (resized_at a x n)) h x.place moved;
  freed = record {
    freed = x;
    found = (still old spare (resized_at a x n) unused h x found).1;
    moves = moves_still p ok old s h n a spare x found other unused moved moves;
    left = refl;
  };
  renamed = equal_maps _ _ (λ q. sym (no_trace p ok old s h n a spare x found other unused q moved moves));
}

-- every resize to another class (`ChangesClass`) has such a result
pub change_is : (p : Paging) → IsPaging p → (old : Held) → IsSound p old → (asked : Request) (after : CallResult) (r : ChangesClass p old asked after)
    → Moves p old r.object after.moved × (after.held ≡ insert (without old asked.number r.object.place after.moved) asked.number
    (resized_at r.place r.object asked.length))
change_is p ok old s asked after r =
    let f = r.freed in
    let still' = found_still p ok old s asked.number asked.length r.place r.spare r.object r.found r.other r.unused in
    let same : Some f.freed ≡ Some r.object = sym f.found ∙ still' in
    let is : f.freed ≡ r.object = cc in
    let moves : Moves p (insert old r.spare (resized_at r.place r.object asked.length)) r.object after.moved =
    subst (λ y. Moves p (insert old r.spare (resized_at r.place r.object asked.length)) y after.moved) is f.moves in
    let left : r.left ≡ without (insert old r.spare (resized_at r.place r.object asked.length)) asked.number r.object.place after.moved = f.left
    ∙ ap (λ (y : Placed). without (insert old r.spare (resized_at r.place r.object asked.length)) asked.number y.place after.moved) is in
    let before = moves_before p ok old s asked.number asked.length r.place r.spare r.object r.found r.other r.unused after.moved moves in (
      before,
      r.renamed ∙ ap (λ l. insert (remove l r.spare) asked.number (resized_at r.place r.object asked.length)) left
          ∙ equal_maps _ _ (λ q. no_trace p ok old s asked.number asked.length r.place r.spare r.object r.found r.other r.unused q after.moved before),
    )

-- a resize keeps the arrangement sound
pub sound_resize : (p : Paging) (old : Held) (asked : Request) (after : CallResult) → IsPaging p → IsSound p old → RefitsObject p old asked after
    → IsSound p after.held
sound_resize p old asked after ok s (inl r) = sound_in_place p old asked after s r
sound_resize p old asked after ok s (inr r) =
    let f = r.freed in
    let still' = found_still p ok old s asked.number asked.length r.place r.spare r.object r.found r.other r.unused in
    let same : Some f.freed ≡ Some r.object = sym f.found ∙ still' in
    let is : f.freed ≡ r.object = cc in
    let moves : Moves p (insert old r.spare (resized_at r.place r.object asked.length)) r.object after.moved =
    subst (λ y. Moves p (insert old r.spare (resized_at r.place r.object asked.length)) y after.moved) is f.moves in
    let left : r.left ≡ without (insert old r.spare (resized_at r.place r.object asked.length)) asked.number r.object.place after.moved = f.left
    ∙ ap (λ (y : Placed). without (insert old r.spare (resized_at r.place r.object asked.length)) asked.number y.place after.moved) is in
    let e = r.renamed in
    rw (e, left) (sound_changed p ok old s asked.number asked.length r.place r.spare r.object r.found r.other r.unused r.free after.moved moves)
