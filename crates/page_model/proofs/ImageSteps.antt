-- For the laws of `words.rt`: the words are the image of the objects after a malloc, and after an object gets other bytes. A new object and words of no object
-- are zeros. An image of larger extents is an image of headers and bytes. Two images of the same objects, of one length, are equal.
use Rattle.std.proofs.Common.{◌≡◌, ℕ, zero, suc, ◌+◌, ◌-◌, ◌*◌, ◌<◌, ◌≤◌, List, Some, None, length, get_or, set, replicate, take, arith, sym, ◌∙◌, subst, inl}
use Rattle.std.proofs.Common.{inr, ap, refl}
use Rattle.std.proofs.lemmas.List.{get_or-set_same, get_or-set_other, drop-replicate, drop_all, length-replicate}
use Rattle.std.proofs.lemmas.Bool.{cases_eq}
use Rattle.std.proofs.lemmas.Grind.{same_number_lists}
use Rattle.std.specs.FinMap.{get, insert}
use Rattle.cf_base.specs.Classes.{need}
use Rattle.page_model.specs.Held.{Held, Placed}
use Rattle.page_model.specs.Image.{object_word, header_word, word_of_bytes, IsOutside, IsOutsideOf, IsDisjoint, IsImageOver, IsApartFrom, Rewrites}
use Rattle.page_model.proofs.Images.{image_added, image_replaced, within_or, disjoint_outside, turned}

take_zeros : (m n : ℕ) → word_of_bytes (take m (replicate n 0)) ≡ 0
take_zeros zero n = refl
take_zeros (suc m) zero = refl
take_zeros (suc m) (suc n) = omega (arith, take_zeros m n)

-- a new object has zeros after its header
pub fresh_word : (h n i : ℕ) → object_word h (replicate n 0) (suc i) ≡ 0
fresh_word h n i = ap (λ xs. word_of_bytes (take 8 xs)) (drop-replicate (8 * i) n 0) ∙ take_zeros 8 (n - 8 * i)

module _ (extent : ℕ → ℕ) (m : Held) (words : List ℕ) (im : IsImageOver extent m words) (h : ℕ) where
  -- words of no object are zeros
  pub free_words : (a n : ℕ) → ((q : ℕ) (y : Placed) → get m q ≡ Some y → IsDisjoint a n y.place (extent (length y.bytes))) → (i : ℕ) → i < n
      → get_or words (a + i) 0 ≡ 0
  free_words a n free i l = im.zeros (a + i) (λ q y p. disjoint_outside y.place (extent (length y.bytes)) a n i (turned _ _ _ _ (free q y p)) l)

  -- a malloc writes only the header
  pub image_malloc : (a n : ℕ) → get m h ≡ None → a < length words → 0 < extent n
      → ((q : ℕ) (y : Placed) → get m q ≡ Some y → IsDisjoint a (extent n) y.place (extent (length y.bytes)))
      → IsImageOver extent (insert m h (record { place = a; bytes = replicate n 0 })) (set words a (header_word h n))
  image_malloc a n none lt some free =
      let size : length (replicate {A = ℕ} n 0) ≡ n = length-replicate {A = ℕ} n 0 in
      image_added extent m words (set words a (header_word h n)) im h (record { place = a; bytes = replicate n 0 }) none
      (λ q y p ne. rw length-replicate (free q y p))
      (record {
        within = λ i l. written i (rw size at l);
        others = λ w out. get_or-set_other words a w (header_word h n) 0
            (let out' : IsOutside a (extent n) w = rw size at out in elim out' [ inl x ↦ omega arith | inr y ↦ omega arith ]);
      })
    where
      written : (i : ℕ) → i < extent n → get_or (set words a (header_word h n)) (a + i) 0 ≡ object_word h (replicate n 0) i
      written zero l = (let e : a + 0 ≡ a = omega arith in rw (e, length-replicate {A = ℕ} n 0) (get_or-set_same words a (header_word h n) 0 lt))
      written (suc i) l = get_or-set_other words a (a + suc i) (header_word h n) 0 (omega arith) ∙ free_words a (extent n) free (suc i) l
          ∙ sym (fresh_word h n i)

  module _ (words' : List ℕ) where
    -- other bytes at the same address, in the same number of words
    pub image_written : (x : Placed) (bytes : List ℕ) → get m h ≡ Some x → IsApartFrom extent m h x → extent (length bytes) ≡ extent (length x.bytes)
        → Rewrites words words' (record { from = x.place; count = extent (length x.bytes) }) (object_word h bytes)
        → IsImageOver extent (insert m h (record { place = x.place; bytes = bytes })) words'
    image_written x bytes is-x free len re =
        image_replaced extent m words words' im h x (record { place = x.place; bytes = bytes }) is-x free (λ q y p ne. rw len (free q y p ne))
        (λ i l. re.within i (rw len at l))
        (λ i l out. absurd (let out' : IsOutside x.place (extent (length x.bytes)) (x.place + i) =
        rw len at out in elim out' [ inl z ↦ omega arith | inr z ↦ omega arith ]))
        (λ w out _. re.others w out)

-- after its header and bytes an object has zeros
past_object : (h : ℕ) (v : List ℕ) (i : ℕ) → need (length v) ≤ i → object_word h v i ≡ 0
past_object h v zero l = absurd (omega arith)
past_object h v (suc i) l = ap (λ xs. word_of_bytes (take 8 xs)) (drop_all (8 * i) v (omega arith))

-- an image of larger extents, such as whole slots, is an image of the objects' headers and bytes
pub image_narrowed : (extent : ℕ → ℕ) (m : Held) (words : List ℕ) → ((h : ℕ) (x : Placed) → get m h ≡ Some x → need (length x.bytes) ≤ extent (length x.bytes))
    → IsImageOver extent m words → IsImageOver need m words
image_narrowed extent m words wide im = record {
  held = λ h x p i lt. im.held h x p i (omega (arith, wide h x p));
  zeros = λ w out. elim (cases_eq (get_or words w 0) 0) [
    | inl is ↦ is
    | inr ne ↦ absurd (ne (im.zeros w (λ h x p. elim (within_or x.place (extent (length x.bytes)) w) [
      | inl (i, lt, is) ↦ absurd (ne (elim (out h x p) [
        | inl below ↦ absurd (omega arith)
        | inr above ↦ (let e : need (length x.bytes) ≤ i = omega arith in subst (λ z. get_or words z 0 ≡ 0) is (im.held h x p i lt ∙ past_object h x.bytes i e))
      ]))
      | inr outside ↦ outside
    ])))
  ];
}

-- two images of the same objects with the same length are equal
pub image_unique : (extent : ℕ → ℕ) (m : Held) (words words' : List ℕ) → length words ≡ length words' → IsImageOver extent m words → IsImageOver extent m words'
    → words ≡ words'
image_unique extent m words words' len im im' = same_number_lists words words' len (λ w _. elim (cases_eq (get_or words w 0) (get_or words' w 0)) [
  | inl is ↦ is
  | inr ne ↦ absurd (
      let out : (h : ℕ) (x : Placed) → get m h ≡ Some x → IsOutsideOf extent x w = (λ h x p. elim (within_or x.place (extent (length x.bytes)) w) [
        | inl (i, lt, is) ↦ absurd (ne (subst (λ z. get_or words z 0 ≡ get_or words' z 0) is (im.held h x p i lt ∙ sym (im'.held h x p i lt))))
        | inr outside ↦ outside
      ]) in
      ne (im.zeros w out ∙ sym (im'.zeros w out)))
])
