-- For the laws of bytes in `words.rt`: each byte of an object is a byte of a word, the words of an object fit 64 bits, and eight bytes determine such a word.
-- What a write or a resize does to bytes and words. Objects stay storable (`AreStorable`). A header shows number and length.
use Rattle.std.proofs.Common.{◌≡◌, ℕ, zero, suc, ◌+◌, ◌-◌, ◌*◌, ◌/◌, ◌%◌, ◌^◌, ◌<◌, ◌≤◌, List, [], ◌∷◌, ◌++◌, Option, Some, None, length, get_or, replicate}
use Rattle.std.proofs.Common.{take, drop, arith, lit<, sym, ◌∙◌, subst, inl, inr, ap, refl, length-append, length-drop}
use Rattle.std.proofs.lemmas.List.{length-take, length-replicate, get_or-take, get_or-drop, get_or_append_left, get_or-append_right, get_or_past}
use Rattle.std.proofs.lemmas.List.{get_or-replicate}
use Rattle.std.proofs.lemmas.Bool.{cases_lt}
use Rattle.std.proofs.lemmas.Grind.{same_number_lists}
use Rattle.std.specs.FinMap.{get, insert, remove}
use Rattle.cf_base.proofs.Maps.{some_inserted, some_removed}
use Rattle.page_model.specs.Held.{Held, Placed}
use Rattle.page_model.specs.Paging.{Paging, IsPaging, class_for}
use Rattle.page_model.specs.Arrangement.{IsSound}
use Rattle.page_model.specs.Image.{object_word, header_word, word_of_bytes, IsImage, IsSlotImage, IsOutside, Rewrites}
use Rattle.page_model.specs.Bytes.{byte_of, AreBytes, AreStorable, written}
use Rattle.page_model.specs.Steps.{resized, moved_to, without}
use Rattle.page_model.proofs.Reading.{byte_of_word, bytes_part}
use Rattle.page_model.proofs.Resizing.{length-resized}
use Rattle.page_model.proofs.Sizes.{class_holds}
use Rattle.page_model.proofs.SlotImages.{image_after_part}

-- byte k of an object's words is byte k of the object
pub byte_of_object : (h : ℕ) (v : List ℕ) (k : ℕ) → AreBytes v → byte_of (k % 8) (object_word h v (suc (k / 8))) ≡ get_or v k 0
byte_of_object h v k bytes =
    let back : 8 * (k / 8) + k % 8 ≡ k = omega arith in
    byte_of_word (take 8 (drop (8 * (k / 8)) v)) (k % 8) (bytes_part 8 (8 * (k / 8)) v bytes)
    ∙ get_or-take 8 (drop (8 * (k / 8)) v) (k % 8) 0 (omega arith) ∙ get_or-drop (8 * (k / 8)) v (k % 8) 0 ∙ ap (λ x. get_or v x 0) back

-- a byte of an object is a byte of its word
pub byte_read : (m : Held) (words : List ℕ) → IsImage m words → (h : ℕ) (x : Placed) → get m h ≡ Some x → AreBytes x.bytes → (k : ℕ) → k < length x.bytes
    → byte_of (k % 8) (get_or words (x.place + 1 + k / 8) 0) ≡ get_or x.bytes k 0
byte_read m words im h x e bytes k lt =
    let at : x.place + 1 + k / 8 ≡ x.place + suc (k / 8) = omega arith in
    ap (λ w. byte_of (k % 8) (get_or words w 0)) at ∙ ap (byte_of (k % 8)) (im.held h x e (suc (k / 8)) (omega arith)) ∙ byte_of_object h x.bytes k bytes

-- whether w fits n bytes
abbrev pub IsBelow : ℕ → ℕ → Type 0
IsBelow zero w = w ≡ 0
IsBelow (suc n) w = IsBelow n (w / 256)

below_by_bytes : (n : ℕ) (bs : List ℕ) → AreBytes bs → length bs ≤ n → IsBelow n (word_of_bytes bs)
below_by_bytes zero [] b le = refl
below_by_bytes zero (x ∷ bs) b le = absurd (omega arith)
below_by_bytes (suc n) [] b le = below_by_bytes n [] b (omega arith)
below_by_bytes (suc n) (x ∷ bs) b le =
    let small : x < 256 = b 0 in
    let e : (x + 256 * word_of_bytes bs) / 256 ≡ word_of_bytes bs = omega arith in
    rw e (below_by_bytes n bs (λ i. b (suc i)) (omega arith))

same_by_bytes : (n w w' : ℕ) → IsBelow n w → IsBelow n w' → ((j : ℕ) → j < n → byte_of j w ≡ byte_of j w') → w ≡ w'
same_by_bytes zero w w' a b same = a ∙ sym b
same_by_bytes (suc n) w w' a b same =
    let low : w % 256 ≡ w' % 256 = same 0 (omega arith) in
    let high : w / 256 ≡ w' / 256 = same_by_bytes n (w / 256) (w' / 256) a b (λ j lt. same (suc j) (omega arith)) in
    omega arith

-- words with the same eight bytes are equal
pub word_by_bytes : (w w' : ℕ) → w < 2 ^ 64 → w' < 2 ^ 64 → ((j : ℕ) → j < 8 → byte_of j w ≡ byte_of j w') → w ≡ w'
word_by_bytes w w' a b same = same_by_bytes 8 w w' (omega arith) (omega arith) same

-- the words of an object fit 64 bits
pub object_word_small : (h : ℕ) (v : List ℕ) (i : ℕ) → h < 2 ^ 32 → length v < 2 ^ 32 → AreBytes v → object_word h v i < 2 ^ 64
object_word_small h v zero a b bytes = omega arith
object_word_small h v (suc i) a b bytes =
    let len = length-take 8 (drop (8 * i) v) in
    let e : IsBelow 8 (word_of_bytes (take 8 (drop (8 * i) v))) = below_by_bytes 8 (take 8 (drop (8 * i) v)) (bytes_part 8 (8 * i) v bytes) (omega arith) in
    small (word_of_bytes (take 8 (drop (8 * i) v))) e
  where
    small : (w : ℕ) → w / 256 / 256 / 256 / 256 / 256 / 256 / 256 / 256 ≡ 0 → w < 2 ^ 64
    small w e = omega arith

-- two objects that agree in eight bytes agree in their word
pub same_words : (h : ℕ) (u v : List ℕ) (i : ℕ) → length u ≡ length v → ((k : ℕ) → 8 * i ≤ k → k < 8 * i + 8 → get_or u k 0 ≡ get_or v k 0)
    → object_word h u (suc i) ≡ object_word h v (suc i)
same_words h u v i len same =
    let lu = length-take 8 (drop (8 * i) u) in let lv = length-take 8 (drop (8 * i) v) in
    let du = length-drop (8 * i) u in let dv = length-drop (8 * i) v in
    ap word_of_bytes (same_number_lists (take 8 (drop (8 * i) u)) (take 8 (drop (8 * i) v)) (omega arith) (λ k lt.
    get_or-take 8 (drop (8 * i) u) k 0 (omega arith) ∙ get_or-drop (8 * i) u k 0 ∙ same (8 * i + k) (omega arith) (omega arith)
    ∙ sym (get_or-drop (8 * i) v k 0) ∙ sym (get_or-take 8 (drop (8 * i) v) k 0 (omega arith))))

module _ (v : List ℕ) (at : ℕ) (bytes : List ℕ) (fits : at + length bytes ≤ length v) where
  pub length-written : length (written v at bytes) ≡ length v
  length-written =
      let a = length-append (take at v) (bytes ++ drop (at + length bytes) v) in
      let b = length-append bytes (drop (at + length bytes) v) in
      let c = length-take at v in
      let d = length-drop (at + length bytes) v in
      omega arith

  -- before, inside and after the written bytes
  pub written_before : (k : ℕ) → k < at → get_or (written v at bytes) k 0 ≡ get_or v k 0
  written_before k lt = (let c = length-take at v in get_or_append_left (take at v) (bytes ++ drop (at + length bytes) v) 0 k (omega arith)
      ∙ get_or-take at v k 0 lt)

  pub written_inside : (k : ℕ) → k < length bytes → get_or (written v at bytes) (at + k) 0 ≡ get_or bytes k 0
  written_inside k lt =
      let c = length-take at v in
      let e : at + k - at ≡ k = omega arith in
      get_or-append_right (take at v) (bytes ++ drop (at + length bytes) v) at (at + k) 0 (omega arith) (omega arith)
      ∙ ap (λ j. get_or (bytes ++ drop (at + length bytes) v) j 0) e ∙ get_or_append_left bytes (drop (at + length bytes) v) 0 k lt

  pub written_behind : (k : ℕ) → at + length bytes ≤ k → get_or (written v at bytes) k 0 ≡ get_or v k 0
  written_behind k le =
      let c = length-take at v in
      let e : at + length bytes + (k - at - length bytes) ≡ k = omega arith in
      get_or-append_right (take at v) (bytes ++ drop (at + length bytes) v) at k 0 (omega arith) (omega arith)
      ∙ get_or-append_right bytes (drop (at + length bytes) v) (length bytes) (k - at) 0 refl (omega arith)
      ∙ get_or-drop (at + length bytes) v (k - at - length bytes) 0 ∙ ap (λ j. get_or v j 0) e

  -- a write changes only the words that hold one of its bytes
  pub words_kept : (h i : ℕ) → IsOutside (at / 8) ((at % 8 + length bytes + 7) / 8) i → object_word h (written v at bytes) (suc i) ≡ object_word h v (suc i)
  words_kept h i out = same_words h (written v at bytes) v i length-written (λ k low high. elim (cases_lt k at) [
    | inl lt ↦ written_before k lt
    | inr ge ↦ written_behind k (elim out [ inl l ↦ omega arith | inr r ↦ omega arith ])
  ])

pub zeros_are_bytes : (n : ℕ) → AreBytes (replicate n 0)
zeros_are_bytes n i = elim (cases_lt i n) [
  | inl lt ↦ rw (get_or-replicate {A = ℕ} n i 0 0 lt) (lit< tt)
  | inr past ↦ (let len : length (replicate {A = ℕ} n 0) ≡ n =
      length-replicate {A = ℕ} n 0 in rw (get_or_past {X = ℕ} (replicate n 0) i 0 (omega arith)) (lit< tt))
]

pub written_are_bytes : (v : List ℕ) (at : ℕ) (bytes : List ℕ) → at + length bytes ≤ length v → AreBytes v → AreBytes bytes → AreBytes (written v at bytes)
written_are_bytes v at bytes fits a b i = elim (cases_lt i at) [
  | inl before ↦ rw (written_before v at bytes fits i before) (a i)
  | inr from ↦ elim (cases_lt i (at + length bytes)) [
    | inl inside ↦ (let e : at + (i - at) ≡ i = omega arith in subst (λ j. get_or (written v at bytes) j 0 < 256) e
        (rw (written_inside v at bytes fits (i - at) (omega arith)) (b (i - at))))
    | inr behind ↦ rw (written_behind v at bytes fits i behind) (a i)
  ]
]

pub resized_are_bytes : (v : List ℕ) (n : ℕ) → AreBytes v → AreBytes (resized v n)
resized_are_bytes v n a i =
    let len = length-take n v in
    elim (cases_lt i (length (take n v))) [
      | inl low ↦ rw (get_or_append_left (take n v) (replicate (n - length v) 0) 0 i low, get_or-take n v i 0 (omega arith)) (a i)
      | inr high ↦ rw (get_or-append_right (take n v) (replicate (n - length v) 0) (length (take n v)) i 0 refl high)
          (zeros_are_bytes (n - length v) (i - length (take n v)))
    ]

-- a resized object keeps its first bytes, and the added ones are zeros
pub resized_before : (v : List ℕ) (n k : ℕ) → k < n → k < length v → get_or (resized v n) k 0 ≡ get_or v k 0
resized_before v n k a b = (let len = length-take n v in get_or_append_left (take n v) (replicate (n - length v) 0) 0 k (omega arith) ∙ get_or-take n v k 0 a)

pub resized_behind : (v : List ℕ) (n k : ℕ) → length v ≤ k → get_or (resized v n) k 0 ≡ 0
resized_behind v n k a =
    let len = length-take n v in
    let size : length (replicate {A = ℕ} (n - length v) 0) ≡ n - length v = length-replicate {A = ℕ} (n - length v) 0 in
    elim (cases_lt k n) [
      | inl lt ↦ get_or-append_right (take n v) (replicate (n - length v) 0) (length (take n v)) k 0 refl (omega arith)
          ∙ get_or-replicate {A = ℕ} (n - length v) (k - length (take n v)) 0 0 (omega arith)
      | inr past ↦ get_or_past (resized v n) k 0 (let e = length-resized v n in omega arith)
    ]

pub written_nothing : (v : List ℕ) (at : ℕ) → at ≤ length v → written v at [] ≡ v
written_nothing v at le = same_number_lists (written v at []) v (length-written v at [] (omega arith)) (λ k lt. elim (cases_lt k at) [
  | inl before ↦ written_before v at [] (omega arith) k before
  | inr behind ↦ written_behind v at [] (omega arith) k (omega arith)
])

-- Some of an object's bytes are overwritten: the words that hold one of them become those of the new bytes.
pub image_after_bytes : (p : Paging) → IsPaging p → (m : Held) → IsSound p m → (words : List ℕ) → IsSlotImage p m words → (h : ℕ) (x : Placed)
    → get m h ≡ Some x → (words' : List ℕ)
    → (at : ℕ) (bytes : List ℕ) → at + length bytes ≤ length x.bytes
    → Rewrites words words' (record { from = x.place + (1 + at / 8); count = (at % 8 + length bytes + 7) / 8 })
    (λ i. object_word h (written x.bytes at bytes) (1 + at / 8 + i))
    → IsSlotImage p (insert m h (record { place = x.place; bytes = written x.bytes at bytes })) words'
image_after_bytes p ok m s words im h x e words' at bytes fits re =
    let len = length-written x.bytes at bytes fits in
    let holds = class_holds p ok (length x.bytes) (s.slots h x e).class in
    image_after_part p ok m s words im h x e words' (written x.bytes at bytes) (1 + at / 8) ((at % 8 + length bytes + 7) / 8) (ap (class_for p) len)
    (omega arith) re (λ i lt out. same i out)
  where
    same : (i : ℕ) → IsOutside (1 + at / 8) ((at % 8 + length bytes + 7) / 8) i → object_word h (written x.bytes at bytes) i ≡ object_word h x.bytes i
    same zero out = ap (header_word h) (length-written x.bytes at bytes fits)
    same (suc i) (inl l) = words_kept x.bytes at bytes fits h i (inl (omega arith))
    same (suc i) (inr r) = words_kept x.bytes at bytes fits h i (inr (omega arith))

-- objects stay storable when one is added or removed
pub storable_added : (m : Held) (h : ℕ) (x : Placed) → AreStorable m → h < 2 ^ 32 → AreBytes x.bytes → AreStorable (insert m h x)
storable_added m h x good small bytes q y e = elim (some_inserted m h x q y e) [
  | inl (is, same) ↦ (rw is small, rw (← same) bytes)
  | inr (_, was) ↦ good q y was
]

pub storable_taken : (m : Held) (h : ℕ) → AreStorable m → AreStorable (remove m h)
storable_taken m h good q y e = good q y (some_removed m h q y e).1

pub storable_without : (m : Held) (h a : ℕ) (moved : Option ℕ) → AreStorable m → AreStorable (without m h a moved)
storable_without m h a None good = storable_taken m h good
storable_without m h a (Some q) good = go (get m q) refl
  where
    go : (o : Option Placed) → get m q ≡ o → AreStorable (moved_to (remove m h) q o a)
    go None e = storable_taken m h good
    go (Some y) e = storable_added (remove m h) q (record { place = a; bytes = y.bytes }) (storable_taken m h good) (good q y e).0 (good q y e).1

-- a header holds the object's number and length
pub header_shown : (m : Held) (words : List ℕ) (h : ℕ) (x : Placed) → IsImage m words → get m h ≡ Some x → h < 2 ^ 32
    → (get_or words x.place 0 % 2 ^ 32 ≡ h) × (get_or words x.place 0 / 2 ^ 32 ≡ length x.bytes)
header_shown m words h x im e small =
    let at : x.place + 0 ≡ x.place = omega arith in
    let head : get_or words x.place 0 ≡ h + 2 ^ 32 * length x.bytes = rw at at (im.held h x e 0 (omega arith)) in
    (omega arith, omega arith)
