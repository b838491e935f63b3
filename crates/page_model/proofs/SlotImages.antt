-- In a sound arrangement slots are within the region, no two share a word, and free slots have zeros. The words are the image of the objects' whole slots after
-- a malloc, a write, a free and a move, and so of their headers and bytes. For the laws of `words.rt` and for `Frames`.
use Rattle.std.proofs.Common.{◌≡◌, ◌≢◌, ℕ, ◌+◌, ◌*◌, ◌/◌, ◌%◌, ◌<◌, ◌≤◌, List, Some, None, length, get_or, set, replicate, arith, sym, ◌∙◌, subst, inl, inr, ap}
use Rattle.std.proofs.lemmas.List.{length-replicate}
use Rattle.std.proofs.lemmas.Bool.{cases_eq, cases_lt, cases_order}
use Rattle.std.proofs.lemmas.Nat.{div-add-mod', mul-le}
use Rattle.std.specs.FinMap.{get, insert, remove}
use Rattle.cf_base.proofs.Maps.{get_inserted, get_insert_other, get_remove_other, some_removed, some_inserted}
use Rattle.page_model.specs.Held.{Held, Placed}
use Rattle.page_model.specs.Paging.{Paging, IsPaging, slot_words, page_of, class_for}
use Rattle.page_model.specs.Arrangement.{class_at, IsSlotAt, IsSound}
use Rattle.page_model.specs.Steps.{IsFreePlace, MustMove, MayFill, zeros_at}
use Rattle.page_model.specs.Image.{object_word, header_word, slot_for, IsOutside, IsDisjoint, IsImageOver, IsImage, IsSlotImage, IsApart, IsApartFrom, Rewrites}
use Rattle.page_model.specs.Image.{Clears, MovesWords}
use Rattle.page_model.proofs.Images.{image_removed, within_or, disjoint_outside}
use Rattle.page_model.proofs.ImageSteps.{image_malloc, image_written, image_narrowed, free_words}
use Rattle.page_model.proofs.Placing.{sound_placed}
use Rattle.page_model.proofs.FreeSteps.{mover_is_other}
use Rattle.page_model.proofs.Sizes.{class_holds}

-- different multiples of s are at least s apart
multiples_apart : (s x y : ℕ) → x % s ≡ 0 → y % s ≡ 0 → x < y → x + s ≤ y
multiples_apart s x y p q lt =
    let ex : x / s * s + x % s ≡ x = div-add-mod' x s in
    let ey : y / s * s + y % s ≡ y = div-add-mod' y s in
    elim (cases_lt (x / s) (y / s)) [
      | inl below ↦ (let m : (x / s + 1) * s ≤ y / s * s = mul-le (x / s + 1) s (y / s) s (omega arith) (omega arith) in omega arith)
      | inr above ↦ absurd (let m : y / s * s ≤ x / s * s = mul-le (y / s) s (x / s) s above (omega arith) in omega arith)
    ]

-- n words from a on, all on the page of a, end before each address on a later page
page_apart : (P a b : ℕ) → a / P < b / P → (n : ℕ) → a % P + n ≤ P → a + n ≤ b
page_apart P a b lt n fits =
    let ea : a / P * P + a % P ≡ a = div-add-mod' a P in
    let eb : b / P * P + b % P ≡ b = div-add-mod' b P in
    let m : (a / P + 1) * P ≤ b / P * P = mul-le (a / P + 1) P (b / P) P (omega arith) (omega arith) in
    omega arith

-- two slots of one size on one page are disjoint
slots_apart : (P s a b : ℕ) → a / P ≡ b / P → a % P % s ≡ 0 → b % P % s ≡ 0 → a ≢ b → IsDisjoint a s b s
slots_apart P s a b same p q ne =
    let ea : a / P * P + a % P ≡ a = div-add-mod' a P in
    let eb : b / P * P + b % P ≡ b = div-add-mod' b P in
    let eb' : a / P * P + b % P ≡ b = rw same eb in
    elim (cases_order (a % P) (b % P)) [
      | inl is ↦ absurd (ne (omega arith))
      | inr (inl lt) ↦ (let m : a % P + s ≤ b % P = multiples_apart s (a % P) (b % P) p q lt in inl (omega arith))
      | inr (inr gt) ↦ (let m : b % P + s ≤ a % P = multiples_apart s (b % P) (a % P) q p gt in inr (omega arith))
    ]

-- a slot ends within the region
pub slot_inside : (p : Paging) (c a : ℕ) → IsSlotAt p c a → a + slot_words p c ≤ p.pages * p.page_words
slot_inside p c a s =
    let e : a / p.page_words * p.page_words + a % p.page_words ≡ a = div-add-mod' a p.page_words in
    let page : a / p.page_words + 1 ≤ p.pages = omega (arith, s.page) in
    let m : (a / p.page_words + 1) * p.page_words ≤ p.pages * p.page_words =
    mul-le (a / p.page_words + 1) p.page_words p.pages p.page_words page (omega arith) in
    let fits = s.fits in
    omega arith

-- no two objects of a sound arrangement share a word
pub sound_apart : (p : Paging) (m : Held) → IsSound p m → IsApart (slot_for p) m
sound_apart p m s = record {
  pairs = λ h x q y e f ne.
      let sx = s.slots h x e in
      let sy = s.slots q y f in
      elim (cases_order (page_of p x.place) (page_of p y.place)) [
        | inl same ↦ (
            let class = s.one_class h x q y e f same in
            let size : slot_words p (class_at p x) ≡ slot_words p (class_at p y) = ap (slot_words p) class in
            let aligned : x.place % p.page_words % slot_words p (class_at p y) ≡ 0 = rw (← size) sx.aligned in
            rw size (slots_apart p.page_words (slot_words p (class_at p y)) x.place y.place same aligned sy.aligned (s.own_place h x q y e f ne)))
        | inr (inl lt) ↦ inl (page_apart p.page_words x.place y.place lt (slot_words p (class_at p x)) sx.fits)
        | inr (inr gt) ↦ inr (page_apart p.page_words y.place x.place gt (slot_words p (class_at p y)) sy.fits)
      ];
}

-- an object's words are in the region
pub object_inside : (p : Paging) (m : Held) → IsSound p m → (h : ℕ) (x : Placed) → get m h ≡ Some x
    → x.place + slot_for p (length x.bytes) ≤ p.pages * p.page_words
object_inside p m s h x e = slot_inside p (class_at p x) x.place (s.slots h x e)

-- an object shares no word with another
pub sound_apart_from : (p : Paging) (m : Held) → IsSound p m → (h : ℕ) (x : Placed) → get m h ≡ Some x → IsApartFrom (slot_for p) m h x
sound_apart_from p m s h x e q y f ne = (sound_apart p m s).pairs h x q y e f ne

-- x is removed and y moves to its address
pub image_exchanged : (extent : ℕ → ℕ) (m : Held) (words words' : List ℕ) → IsImageOver extent m words → (h q : ℕ) (x y : Placed) → get m h ≡ Some x
    → get m q ≡ Some y → q ≢ h
    → IsApartFrom extent m h x → IsApartFrom extent m q y → extent (length y.bytes) ≡ extent (length x.bytes)
    → MovesWords words words' (record { from = y.place; count = extent (length y.bytes) }) x.place
    → IsImageOver extent (insert (remove m h) q (record { place = x.place; bytes = y.bytes })) words'
image_exchanged extent m words words' im h q x y is-x is-y ne free_x free_y size mo = record {
  held = λ r z p i lt. elim (some_inserted (remove m h) q (record { place = x.place; bytes = y.bytes }) r z p) [
    | inl (is, same) ↦ (let l : i < extent (length y.bytes) = rw (← same) at lt in rw (is, ← same) (mo.arrived i l ∙ im.held q y is-y i l))
    | inr (nq, p') ↦ (
        let was = some_removed m h r z p' in
        mo.others (z.place + i)
        (disjoint_outside y.place (extent (length y.bytes)) z.place (extent (length z.bytes)) i (free_y r z was.1 nq) lt)
        (rw size (disjoint_outside x.place (extent (length x.bytes)) z.place (extent (length z.bytes)) i (free_x r z was.1 was.0) lt))
        ∙ im.held r z was.1 i lt)
  ];
  zeros = λ w out.
      let at_x : IsOutside x.place (extent (length y.bytes)) w =
      out q (record { place = x.place; bytes = y.bytes }) (get_inserted (remove m h) q (record { place = x.place; bytes = y.bytes })) in
      elim (within_or y.place (extent (length y.bytes)) w) [
        | inl (i, lt, at) ↦ subst (λ v. get_or words' v 0 ≡ 0) at (mo.left_zeros i lt)
        | inr at_y ↦ mo.others w at_y at_x ∙ im.zeros w (λ r z p. elim (cases_eq r h) [
          | inl is ↦ (let same : x ≡ z = (let p' : get m h ≡ Some z = rw is at p in cc) in let at_x' : IsOutside x.place (extent (length x.bytes)) w =
              rw size at at_x in rw same at at_x')
          | inr nh ↦ elim (cases_eq r q) [
            | inl is ↦ (let same : y ≡ z = (let p' : get m q ≡ Some z = rw is at p in cc) in rw same at at_y)
            | inr nq ↦ out r z (get_insert_other (remove m h) q (record { place = x.place; bytes = y.bytes }) r nq ∙ get_remove_other m h r nh ∙ p)
          ]
        ])
      ];
}

-- a free address shares no word with an object
pub place_apart : (p : Paging) → IsPaging p → (m : Held) → IsSound p m → (n a : ℕ) → IsFreePlace p m n a → (h : ℕ) → get m h ≡ None
    → (q : ℕ) (y : Placed) → get m q ≡ Some y → IsDisjoint a (slot_for p n) y.place (slot_for p (length y.bytes))
place_apart p ok m s n a f h none q y e =
    let len : length (replicate {A = ℕ} n 0) ≡ n = length-replicate {A = ℕ} n 0 in
    let sound : IsSound p (insert m h (zeros_at a n)) = sound_placed p m h (zeros_at a n) none ok s (rw len f) in
    let ne : q ≢ h = (λ is. (let e' : get m h ≡ Some y = rw is at e in absurd (let z : Some y ≡ None = sym e' ∙ none in cc))) in
    let d = sound_apart_from p (insert m h (zeros_at a n)) sound h (zeros_at a n) (get_inserted m h (zeros_at a n)) q y
    (get_insert_other m h (zeros_at a n) q ne ∙ e) ne in
    rw len at d

module _ (p : Paging) (ok : IsPaging p) (m : Held) (s : IsSound p m) (words : List ℕ) (im : IsSlotImage p m words) where
  -- the words of a free address are zeros
  pub place_is_zeros : (n a : ℕ) → IsFreePlace p m n a → (h : ℕ) → get m h ≡ None → (i : ℕ) → i < slot_for p n → get_or words (a + i) 0 ≡ 0
  place_is_zeros n a f h none = free_words (slot_for p) m words im h a (slot_for p n) (λ q y e. place_apart p ok m s n a f h none q y e)

  -- a malloc writes the header into zeros
  pub image_after_malloc : (h n a : ℕ) → get m h ≡ None → length words ≡ p.pages * p.page_words → IsFreePlace p m n a
      → IsSlotImage p (insert m h (zeros_at a n)) (set words a (header_word h n))
  image_after_malloc h n a none len f =
      let inside = slot_inside p (class_for p n) a f.slot in
      let least = ok.sized.least (class_for p n) f.slot.class in
      let same : length (replicate {A = ℕ} n 0) ≡ n = length-replicate {A = ℕ} n 0 in
      let sound : IsSound p (insert m h (zeros_at a n)) = sound_placed p m h (zeros_at a n) none ok s (rw same f) in
      image_malloc (slot_for p) m words im h a n none (omega arith) (omega arith) (λ q y e. (
      let ne : q ≢ h = (λ is. (let e' : get m h ≡ Some y = rw is at e in absurd (let z : Some y ≡ None = sym e' ∙ none in cc))) in
      let d = sound_apart_from p (insert m h (zeros_at a n)) sound h (zeros_at a n) (get_inserted m h (zeros_at a n)) q y
      (get_insert_other m h (zeros_at a n) q ne ∙ e) ne in
      rw same at d))

  module _ (h : ℕ) (x : Placed) (found : get m h ≡ Some x) (words' : List ℕ) where
    -- a free clears the slot
    pub image_after_free : Clears words words' (record { from = x.place; count = slot_for p (length x.bytes) }) → IsSlotImage p (remove m h) words'
    image_after_free re = image_removed (slot_for p) m words words' im h x found (sound_apart_from p m s h x found) re

    -- other bytes in the slot, of the same class
    pub image_after_write : (bytes : List ℕ) → class_for p (length bytes) ≡ class_at p x
        → Rewrites words words' (record { from = x.place; count = slot_for p (length x.bytes) }) (object_word h bytes)
        → IsSlotImage p (insert m h (record { place = x.place; bytes = bytes })) words'
    image_after_write bytes class re = image_written (slot_for p) m words im h words' x bytes found (sound_apart_from p m s h x found)
        (ap (slot_words p) class) re

    -- a part of the slot is rewritten, and the object's words outside of it are right already
    pub image_after_part : (bytes : List ℕ) (from count : ℕ) → class_for p (length bytes) ≡ class_at p x → from + count ≤ slot_for p (length x.bytes)
        → Rewrites words words' (record { from = x.place + from; count = count }) (λ i. object_word h bytes (from + i))
        → ((i : ℕ) → i < slot_for p (length x.bytes) → IsOutside from count i → object_word h bytes i ≡ object_word h x.bytes i)
        → IsSlotImage p (insert m h (record { place = x.place; bytes = bytes })) words'
    image_after_part bytes from count class inside re same = image_after_write bytes class (record {
      within = λ i lt. elim (within_or from count i) [
        | inl (j, l, is) ↦ (let e : x.place + from + j ≡ x.place + i =
            omega arith in subst (λ w. get_or words' w 0 ≡ object_word h bytes i) e (re.within j l ∙ ap (object_word h bytes) is))
        | inr out ↦ re.others (x.place + i) (shifted out) ∙ im.held h x found i lt ∙ sym (same i lt out)
      ];
      others = λ w out. re.others w (wider out);
    })
      where
        shifted : {i : ℕ} → IsOutside from count i → IsOutside (x.place + from) count (x.place + i)
        shifted (inl l) = inl (omega arith)
        shifted (inr r) = inr (omega arith)

        wider : {w : ℕ} → IsOutside x.place (slot_for p (length x.bytes)) w → IsOutside (x.place + from) count w
        wider (inl l) = inl (omega arith)
        wider (inr r) = inr (omega arith)

    -- a free that moves y copies its slot to the freed one and clears the old one
    pub image_after_move : (q : ℕ) (y : Placed) → get m q ≡ Some y → MustMove p m x → MayFill p m x y
        → MovesWords words words' (record { from = y.place; count = slot_for p (length y.bytes) }) x.place
        → IsSlotImage p (insert (remove m h) q (record { place = x.place; bytes = y.bytes })) words'
    image_after_move q y there must may mo =
        image_exchanged (slot_for p) m words words' im h q x y found there (mover_is_other p ok m s h x found q y there must may)
        (sound_apart_from p m s h x found) (sound_apart_from p m s q y there) (ap (slot_words p) may.class) mo

  -- an image of whole slots is an image of the objects' headers and bytes
  pub own_words : IsImage m words
  own_words = image_narrowed (slot_for p) m words (λ h x e. class_holds p ok (length x.bytes) (s.slots h x e).class) im
