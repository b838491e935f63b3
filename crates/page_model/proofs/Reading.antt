-- The words at an object's address determine its length and its bytes; the number that bytes represent has these bytes. So words and addresses determine the
-- objects (`held_at`), whose addresses are those given and whose bytes are below 256 (laws `words_show_what_is_held`, `held_at_has_places`).
use Rattle.std.proofs.Common.{◌≡◌, ℕ, zero, suc, ◌+◌, ◌*◌, ◌/◌, ◌%◌, ◌^◌, ◌<◌, List, [], ◌∷◌, Option, Some, None, length, get_or, take, drop, arith, lit<, sym}
use Rattle.std.proofs.Common.{◌∙◌, inl, inr, ap, refl}
use Rattle.std.specs.Prelude.{option_map}
use Rattle.std.proofs.lemmas.List.{get_or-take, get_or-drop, get_or_past, length-take}
use Rattle.std.proofs.lemmas.List.FromFn.{length-map-range_with_len, get_or-map-range_with_len}
use Rattle.std.proofs.lemmas.Bool.{cases_lt}
use Rattle.std.proofs.lemmas.Grind.{same_number_lists}
use Rattle.std.specs.Ordering.{nat_cmp}
use Rattle.std.specs.FinMap.{FinMap, get}
use Rattle.cf_base.specs.Classes.{need}
use Rattle.page_model.specs.Held.{Held, Placed, places}
use Rattle.page_model.specs.Image.{object_word, word_of_bytes, IsImageOver}
use Rattle.cf_base.proofs.Maps.{equal_maps}
use Rattle.cf_base.proofs.MapValues.{get-map_values}
use Rattle.page_model.specs.Bytes.{byte_of, bytes_at, held_at, AreBytes, AreStorable}

-- byte j of the number that a list of bytes represents is byte j of the list
pub byte_of_word : (bs : List ℕ) (j : ℕ) → AreBytes bs → byte_of j (word_of_bytes bs) ≡ get_or bs j 0
byte_of_word [] zero b = refl
byte_of_word [] (suc j) b = byte_of_word [] j b
byte_of_word (x ∷ bs) zero b = (let small : x < 256 = b 0 in omega arith)
byte_of_word (x ∷ bs) (suc j) b =
    let small : x < 256 = b 0 in
    let e : (x + 256 * word_of_bytes bs) / 256 ≡ word_of_bytes bs = omega arith in
    rw e (byte_of_word bs j (λ i. b (suc i)))

pub bytes_part : (m n : ℕ) (v : List ℕ) → AreBytes v → AreBytes (take m (drop n v))
bytes_part m n v b i = elim (cases_lt i m) [
  | inl lt ↦ rw (get_or-take m (drop n v) i 0 lt, get_or-drop n v i 0) (b (n + i))
  | inr past ↦ rw (get_or_past (take m (drop n v)) i 0 (simp length-take (omega arith))) (lit< tt)
]

-- if the words at an address are those of an object, `bytes_at` is its bytes
pub bytes_of_held : (words : List ℕ) (h a : ℕ) (v : List ℕ) → h < 2 ^ 32 → AreBytes v
    → ((i : ℕ) → i < need (length v) → get_or words (a + i) 0 ≡ object_word h v i) → bytes_at words a ≡ v
unfolding bytes_at
bytes_of_held words h a v small bytes held =
    let at : a + 0 ≡ a = omega arith in
    let head : get_or words a 0 ≡ h + 2 ^ 32 * length v = rw at at (held 0 (omega arith)) in
    let len : get_or words a 0 / 2 ^ 32 ≡ length v = rw head (omega arith) in
    let size : length (bytes_at words a) ≡ length v = length-map-range_with_len _ 0 _ ∙ len in
    same_number_lists (bytes_at words a) v size (λ k lt.
    let inside : k < length v = omega arith in
    let inside' : k < get_or words a 0 / 2 ^ 32 = omega arith in
    let word : get_or words (a + suc (k / 8)) 0 ≡ object_word h v (suc (k / 8)) = held (suc (k / 8)) (omega arith) in
    let place : a + 1 + k / 8 ≡ a + suc (k / 8) = omega arith in
    let back : 8 * (k / 8) + k % 8 ≡ k = omega arith in
    get_or-map-range_with_len (λ i. byte_of (i % 8) (get_or words (a + 1 + i / 8) 0)) 0 (get_or words a 0 / 2 ^ 32) k k 0 inside' (omega arith)
    ∙ ap (λ x. byte_of (k % 8) (get_or words x 0)) place ∙ ap (byte_of (k % 8)) word
    ∙ byte_of_word (take 8 (drop (8 * (k / 8)) v)) (k % 8) (bytes_part 8 (8 * (k / 8)) v bytes)
    ∙ get_or-take 8 (drop (8 * (k / 8)) v) (k % 8) 0 (omega arith) ∙ get_or-drop (8 * (k / 8)) v (k % 8) 0 ∙ ap (λ x. get_or v x 0) back)

-- words and addresses determine the objects
pub held_from_image : (m : Held) (at : FinMap nat_cmp ℕ) (words : List ℕ) → IsImageOver need m words → at ≡ places m → AreStorable m → held_at words at ≡ m
held_from_image m at words im e good = equal_maps _ _ (λ q. get-map_values (λ a. record { place = a; bytes = bytes_at words a }) at q
    ∙ ap (λ p. option_map (λ a. record { place = a; bytes = bytes_at words a }) (get p q)) e
    ∙ ap (option_map (λ a. record { place = a; bytes = bytes_at words a })) (get-map_values (λ (x : Placed). x.place) m q) ∙ go q (get m q) refl)
  where
    go : (q : ℕ) (o : Option Placed) → get m q ≡ o → option_map (λ a. record { place = a; bytes = bytes_at words a })
        (option_map (λ (x : Placed). x.place) o) ≡ o
    go q None f = refl
    go q (Some x) f = (let g = good q x f in ap (λ v. Some (record { place = x.place; bytes = v }))
        (bytes_of_held words q x.place x.bytes g.0 g.1 (im.held q x f)))

-- a byte of a word is below 256
pub byte_below : (j w : ℕ) → byte_of j w < 256
byte_below zero w = omega arith
byte_below (suc j) w = byte_below j (w / 256)

pub bytes_at-AreBytes : (words : List ℕ) (a : ℕ) → AreBytes (bytes_at words a)
unfolding bytes_at
bytes_at-AreBytes words a i = elim (cases_lt i (get_or words a 0 / 2 ^ 32)) [
  | inl lt ↦ rw (get_or-map-range_with_len (λ i. byte_of (i % 8) (get_or words (a + 1 + i / 8) 0)) 0 (get_or words a 0 / 2 ^ 32) i i 0 lt (omega arith))
      (byte_below (i % 8) (get_or words (a + 1 + i / 8) 0))
  | inr past ↦ rw (get_or_past (bytes_at words a) i 0 (simp length-map-range_with_len past)) (lit< tt)
]

-- `held_at` keeps the addresses, and its objects have bytes
pub places-held_at : (words : List ℕ) (at : FinMap nat_cmp ℕ) → places (held_at words at) ≡ at
places-held_at words at = equal_maps _ _ (λ q. get-map_values (λ (x : Placed). x.place) (held_at words at) q
    ∙ ap (option_map (λ (x : Placed). x.place)) (get-map_values (λ a. record { place = a; bytes = bytes_at words a }) at q) ∙ go (get at q))
  where
    go : (o : Option ℕ) → option_map (λ (x : Placed). x.place) (option_map (λ a. record { place = a; bytes = bytes_at words a }) o) ≡ o
    go None = refl
    go (Some a) = refl

pub held_at_is : (words : List ℕ) (at : FinMap nat_cmp ℕ) (q : ℕ) (y : Placed) → get (held_at words at) q ≡ Some y
    → (get at q ≡ Some y.place) × (y.bytes ≡ bytes_at words y.place)
held_at_is words at q y e = go (get at q) refl (sym (get-map_values (λ a. record { place = a; bytes = bytes_at words a }) at q) ∙ e)
  where
    go : (o : Option ℕ) → get at q ≡ o → option_map (λ a. record { place = a; bytes = bytes_at words a }) o ≡ Some y
        → (get at q ≡ Some y.place) × (y.bytes ≡ bytes_at words y.place)
    go None e f = absurd (let f' : ◌≡◌ {A = Option Placed} None (Some y) = f in cc)
    go (Some a) e f = (let same : ◌≡◌ {A = Placed} (record { place = a; bytes = bytes_at words a }) y = cc in (rw (← same) e, rw (← same) refl))

pub held_at_bytes : (words : List ℕ) (at : FinMap nat_cmp ℕ) (q : ℕ) (y : Placed) → get (held_at words at) q ≡ Some y → AreBytes y.bytes
held_at_bytes words at q y e = (let b = (held_at_is words at q y e).1 in rw b (bytes_at-AreBytes words y.place))

pub bytes_long : (words : List ℕ) (a : ℕ) → length (bytes_at words a) ≡ get_or words a 0 / 2 ^ 32
unfolding bytes_at
bytes_long words a = length-map-range_with_len _ 0 _

pub byte_is : (words : List ℕ) (a i : ℕ) → i < length (bytes_at words a) → get_or (bytes_at words a) i 0 ≡ byte_of (i % 8) (get_or words (a + 1 + i / 8) 0)
unfolding bytes_at
byte_is words a i lt =
    let len : length (bytes_at words a) ≡ get_or words a 0 / 2 ^ 32 = bytes_long words a in
    get_or-map-range_with_len (λ i. byte_of (i % 8) (get_or words (a + 1 + i / 8) 0)) 0 (get_or words a 0 / 2 ^ 32) i i 0 (omega arith) (omega arith)
