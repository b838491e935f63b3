-- For the law `words_after_a_resize`: after a resize to another class the words are the image of the new objects, whether the old slot is cleared or another
-- object's words move into it.
use Rattle.std.proofs.Common.{◌≡◌, ◌≢◌, ℕ, ◌+◌, ◌*◌, ◌<◌, ◌≤◌, List, Some, None, length, get_or, take, drop, arith, sym, ◌∙◌, subst, inl, inr, ap, length-drop}
use Rattle.std.proofs.lemmas.List.{length-take, get_or-take, get_or-drop}
use Rattle.std.specs.FinMap.{get, insert, remove}
use Rattle.cf_base.proofs.Maps.{get_insert_other, get_removed, some_inserted, some_removed}
use Rattle.page_model.specs.Held.{Held, Placed}
use Rattle.page_model.specs.Paging.{Paging, IsPaging, slot_words, class_for}
use Rattle.page_model.specs.Arrangement.{IsSound}
use Rattle.page_model.specs.Steps.{IsFreePlace, MustMove, MayFill}
use Rattle.page_model.specs.Bytes.{written}
use Rattle.page_model.specs.Image.{object_word, slot_for, IsOutside, IsDisjoint, IsSlotImage, Rewrites, Clears, MovesWords}
use Rattle.page_model.proofs.Images.{image_removed, image_added, within_or, disjoint_outside, turned}
use Rattle.page_model.proofs.FreeSteps.{mover_is_other}
use Rattle.page_model.proofs.SlotImages.{image_exchanged, sound_apart_from, slot_inside, place_apart}
use Rattle.page_model.proofs.Writing.{written_before, written_inside, written_behind}

-- `new`, with the n words from a on as they were in `old`
module _ (old new : List ℕ) (a n : ℕ) (inside : a + n ≤ length old) (inside' : a + n ≤ length new) where
  length-part : length (take n (drop a old)) ≡ n
  length-part = (let x = length-take n (drop a old) in let y = length-drop a old in omega arith)

  abbrev put_back : List ℕ
  put_back = written new a (take n (drop a old))

  fits_back : a + length (take n (drop a old)) ≤ length new
  fits_back = rw length-part inside'

  back_within : (i : ℕ) → i < n → get_or put_back (a + i) 0 ≡ get_or old (a + i) 0
  back_within i lt =
      let len = length-part in
      let lt' : i < length (take n (drop a old)) = rw len lt in
      written_inside new a (take n (drop a old)) fits_back i lt' ∙ get_or-take n (drop a old) i 0 lt ∙ get_or-drop a old i 0

  back_others : (w : ℕ) → IsOutside a n w → get_or put_back w 0 ≡ get_or new w 0
  back_others w (inl l) = written_before new a (take n (drop a old)) fits_back w l
  back_others w (inr r) = (let le : a + length (take n (drop a old)) ≤ w = rw length-part r in written_behind new a (take n (drop a old)) fits_back w le)

-- a rewrite and a later change of other words may happen in either order
module _ (old mid new : List ℕ) (a n : ℕ) (f : ℕ → ℕ) (re : Rewrites old mid (record { from = a; count = n }) f) (inside : a + n ≤ length old)
    (inside' : a + n ≤ length new) where
  first_last : ((i : ℕ) → i < n → get_or new (a + i) 0 ≡ get_or mid (a + i) 0)
      → Rewrites (put_back old new a n inside inside') new (record { from = a; count = n }) f
  first_last kept = record {
    within = λ i lt. kept i lt ∙ re.within i lt;
    others = λ w out. sym (back_others old new a n inside inside' w out);
  }

  clears_first : (b k : ℕ) → IsDisjoint a n b k → Clears mid new (record { from = b; count = k })
      → Clears old (put_back old new a n inside inside') (record { from = b; count = k })
  clears_first b k apart c = record {
    within = λ i lt. back_others old new a n inside inside' (b + i) (disjoint_outside a n b k i apart lt) ∙ c.within i lt;
    others = λ w out. elim (within_or a n w) [
      | inl (i, lt, is) ↦ subst (λ v. get_or (put_back old new a n inside inside') v 0 ≡ get_or old v 0) is (back_within old new a n inside inside' i lt)
      | inr out' ↦ back_others old new a n inside inside' w out' ∙ c.others w out ∙ re.others w out'
    ];
  }

  moves_first : (b c k : ℕ) → IsDisjoint a n b k → IsDisjoint a n c k → MovesWords mid new (record { from = b; count = k }) c
      → MovesWords old (put_back old new a n inside inside') (record { from = b; count = k }) c
  moves_first b c k ab ac m = record {
    arrived = λ i lt. back_others old new a n inside inside' (c + i) (disjoint_outside a n c k i ac lt) ∙ m.arrived i lt
        ∙ re.others (b + i) (disjoint_outside a n b k i ab lt);
    left_zeros = λ i lt. back_others old new a n inside inside' (b + i) (disjoint_outside a n b k i ab lt) ∙ m.left_zeros i lt;
    others = λ w ob oc. elim (within_or a n w) [
      | inl (i, lt, is) ↦ subst (λ v. get_or (put_back old new a n inside inside') v 0 ≡ get_or old v 0) is (back_within old new a n inside inside' i lt)
      | inr out' ↦ back_others old new a n inside inside' w out' ∙ m.others w ob oc ∙ re.others w out'
    ];
  }

module _ (p : Paging) (ok : IsPaging p) (m : Held) (s : IsSound p m) (old mid new : List ℕ) (im : IsSlotImage p m old)
    (len : length old ≡ p.pages * p.page_words) (len' : length new ≡ p.pages * p.page_words)
    (h : ℕ) (x : Placed) (is-x : get m h ≡ Some x) (a : ℕ) (bytes : List ℕ) (free : IsFreePlace p m (length bytes) a)
    (spare : ℕ) (unused : get m spare ≡ None)
    (re : Rewrites old mid (record { from = a; count = slot_for p (length bytes) }) (object_word h bytes)) where
  -- the new slot is apart from every object's slot
  apart : (q : ℕ) (y : Placed) → get m q ≡ Some y → IsDisjoint a (slot_for p (length bytes)) y.place (slot_for p (length y.bytes))
  apart q y e = place_apart p ok m s (length bytes) a free spare unused q y e

  within_old : a + slot_for p (length bytes) ≤ length old
  within_old = (let i = slot_inside p (class_for p (length bytes)) a free.slot in rw len i)

  within_new : a + slot_for p (length bytes) ≤ length new
  within_new = (let i = slot_inside p (class_for p (length bytes)) a free.slot in rw len' i)

  -- the resize clears the object's old slot
  pub image_after_change : Clears mid new (record { from = x.place; count = slot_for p (length x.bytes) })
      → IsSlotImage p (insert (remove m h) h (record { place = a; bytes = bytes })) new
  image_after_change c =
      let first = image_removed (slot_for p) m old (put_back old new a (slot_for p (length bytes)) within_old within_new) im h x is-x
      (sound_apart_from p m s h x is-x)
      (clears_first old mid new a (slot_for p (length bytes)) (object_word h bytes) re within_old within_new x.place (slot_for p (length x.bytes))
      (apart h x is-x) c) in
      image_added (slot_for p) (remove m h) (put_back old new a (slot_for p (length bytes)) within_old within_new) new first h
      (record { place = a; bytes = bytes }) (get_removed m h)
      (λ q y e ne. apart q y (some_removed m h q y e).1)
      (first_last old mid new a (slot_for p (length bytes)) (object_word h bytes) re within_old within_new
      (λ i lt. c.others (a + i) (disjoint_outside x.place (slot_for p (length x.bytes)) a (slot_for p (length bytes)) i (turned _ _ _ _ (apart h x is-x)) lt)))

  -- the resize moves the words of another object's slot into the old slot
  pub image_after_change_and_move : (q : ℕ) (y : Placed) → get m q ≡ Some y → MustMove p m x → MayFill p m x y
      → MovesWords mid new (record { from = y.place; count = slot_for p (length y.bytes) }) x.place
      → IsSlotImage p (insert (insert (remove m h) q (record { place = x.place; bytes = y.bytes })) h (record { place = a; bytes = bytes })) new
  image_after_change_and_move q y is-y must may mo =
      let ne : q ≢ h = mover_is_other p ok m s h x is-x q y is-y must may in
      let size : slot_for p (length y.bytes) ≡ slot_for p (length x.bytes) = ap (slot_words p) may.class in
      let ax : IsDisjoint a (slot_for p (length bytes)) x.place (slot_for p (length y.bytes)) =
      subst (λ n. IsDisjoint a (slot_for p (length bytes)) x.place n) (sym size) (apart h x is-x) in
      let ay = apart q y is-y in
      let first = image_exchanged (slot_for p) m old (put_back old new a (slot_for p (length bytes)) within_old within_new) im h q x y is-x is-y ne
      (sound_apart_from p m s h x is-x) (sound_apart_from p m s q y is-y) size
      (moves_first old mid new a (slot_for p (length bytes)) (object_word h bytes) re within_old within_new y.place x.place
      (slot_for p (length y.bytes)) ay ax mo) in
      let gone : get (insert (remove m h) q (record { place = x.place; bytes = y.bytes })) h ≡ None = get_insert_other (remove m h) q _ h (λ e. ne (sym e))
      ∙ get_removed m h in
      image_added (slot_for p) (insert (remove m h) q (record { place = x.place; bytes = y.bytes }))
      (put_back old new a (slot_for p (length bytes)) within_old within_new) new first h (record { place = a; bytes = bytes }) gone
      (λ r z e nh. elim (some_inserted (remove m h) q (record { place = x.place; bytes = y.bytes }) r z e) [
        | inl (_, same) ↦ rw (← same) ax
        | inr (_, was) ↦ apart r z (some_removed m h r z was).1
      ])
      (first_last old mid new a (slot_for p (length bytes)) (object_word h bytes) re within_old within_new
      (λ i lt. mo.others (a + i) (disjoint_outside y.place (slot_for p (length y.bytes)) a (slot_for p (length bytes)) i (turned _ _ _ _ ay) lt)
      (disjoint_outside x.place (slot_for p (length y.bytes)) a (slot_for p (length bytes)) i (turned _ _ _ _ ax) lt)))
