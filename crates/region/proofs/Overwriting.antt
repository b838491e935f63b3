-- Bytes are overwritten word by word, in one part or several: each byte afterwards. Also the bytes of a word, and eight bytes as a word.
use Rattle.std.proofs.Common.{◌≡◌, ℕ, zero, suc, ◌+◌, ◌-◌, ◌*◌, ◌/◌, ◌%◌, ◌<◌, ◌≤◌, true, false, List, [], ◌∷◌, length, get_or, set, take, drop, arith, lit<, ◌^◌, sym, ◌∙◌}
use Rattle.std.proofs.Common.{inl, inr, ap, refl}
use Rattle.std.specs.Prelude.{◌&&◌, nat_le, nat_lt, if◌then◌else◌}
use Rattle.std.proofs.lemmas.List.{get_or-set_same, get_or-set_other, get_or_past, get_or-take, get_or-drop, length-take, length-drop, take_all}
use Rattle.std.proofs.lemmas.Bool.{cases_lt, cases_eq}
use Rattle.std.proofs.lemmas.Bool.Decides.{nat_tests}
use Rattle.std.specs.Int.{w64, to_le_bytes, from_le_bytes}
use Rattle.page_model.specs.Bytes.{byte_of, AreBytes, written}
use Rattle.page_model.proofs.CallerLemmas.{byte_below, length-written, written_before, written_inside, written_behind, written_are_bytes}
use Rattle.std.proofs.lemmas.Nat.{le_bytes_8}
use Rattle.region.specs.Cells.{byte_in, overwritten}

module _ (f : ℕ → ℕ) (at : ℕ) (part : List ℕ) (k : ℕ) where
  pub overwritten_inside : at ≤ k → k < at + length part → overwritten f at part k ≡ get_or part (k - at) 0
  overwritten_inside low high =
      let a : nat_le at k ≡ true = grind (arith, nat_tests) in
      let b : nat_lt k (at + length part) ≡ true = grind (arith, nat_tests) in
      rw (a, b) refl

  pub overwritten_before : k < at → overwritten f at part k ≡ f k
  overwritten_before low = (let a : nat_le at k ≡ false = grind (arith, nat_tests) in rw a refl)

  pub overwritten_behind : at + length part ≤ k → overwritten f at part k ≡ f k
  overwritten_behind high =
      let a : nat_le at k ≡ true = grind (arith, nat_tests) in
      let b : nat_lt k (at + length part) ≡ false = grind (arith, nat_tests) in
      rw (a, b) refl

-- the first d bytes are written, then the next n
module _ (f : ℕ → ℕ) (at d n : ℕ) (bytes : List ℕ) (fits : d + n ≤ length bytes) where
  abbrev first : List ℕ
  first = take d bytes

  abbrev next : List ℕ
  next = take n (drop d bytes)

  len_first : length first ≡ d
  len_first = (let l = length-take d bytes in omega arith)

  len_next : length next ≡ n
  len_next = (let l = length-take n (drop d bytes) in let m = length-drop d bytes in omega arith)

  len_both : length (take (d + n) bytes) ≡ d + n
  len_both = (let l = length-take (d + n) bytes in omega arith)

  pub overwritten_more : (k : ℕ) → overwritten (overwritten f at first) (at + d) next k ≡ overwritten f at (take (d + n) bytes) k
  overwritten_more k = (let lf = len_first in let ln = len_next in let lb = len_both in let all = take (d + n) bytes in elim (cases_lt k at) [
    | inl before ↦ overwritten_before (overwritten f at first) (at + d) next k (omega arith) ∙ overwritten_before f at first k before
        ∙ sym (overwritten_before f at all k before)
    | inr from ↦ elim (cases_lt k (at + d)) [
      | inl low ↦ overwritten_before (overwritten f at first) (at + d) next k low ∙ overwritten_inside f at first k from (omega arith)
          ∙ get_or-take d bytes (k - at) 0 (omega arith)
          ∙ sym (overwritten_inside f at all k from (omega arith) ∙ get_or-take (d + n) bytes (k - at) 0 (omega arith))
      | inr high ↦ elim (cases_lt k (at + d + n)) [
        | inl inside ↦ overwritten_inside (overwritten f at first) (at + d) next k high (omega arith)
            ∙ get_or-take n (drop d bytes) (k - (at + d)) 0 (omega arith) ∙ get_or-drop d bytes (k - (at + d)) 0
            ∙ ap (λ (i : ℕ). get_or bytes i 0) (let e : d + (k - (at + d)) ≡ k - at = omega arith in e)
            ∙ sym (overwritten_inside f at all k from (omega arith) ∙ get_or-take (d + n) bytes (k - at) 0 (omega arith))
        | inr behind ↦ overwritten_behind (overwritten f at first) (at + d) next k (omega arith) ∙ overwritten_behind f at first k (omega arith)
            ∙ sym (overwritten_behind f at all k (omega arith))
      ]
    ]
  ])

-- if f and g have the same byte k, they still have it after both are overwritten by the same bytes
pub overwritten_same : (f g : ℕ → ℕ) (at : ℕ) (part : List ℕ) (k : ℕ) → f k ≡ g k → overwritten f at part k ≡ overwritten g at part k
overwritten_same f g at part k e = ap (λ (z : ℕ). if nat_le at k && nat_lt k (at + length part) then get_or part (k - at) 0 else z) e

-- byte k of a list of bytes after those of `part` replaced its bytes from byte `at` on
written_byte : (v : List ℕ) (at : ℕ) (part : List ℕ) → at + length part ≤ length v → (k : ℕ)
    → get_or (written v at part) k 0 ≡ overwritten (λ i. get_or v i 0) at part k
written_byte v at part fits k = elim (cases_lt k at) [
  | inl before ↦ written_before v at part fits k before ∙ sym (overwritten_before (λ i. get_or v i 0) at part k before)
  | inr from ↦ elim (cases_lt k (at + length part)) [
    | inl inside ↦ (
        let e : at + (k - at) ≡ k = omega arith in
        ap (λ i. get_or (written v at part) i 0) (sym e) ∙ written_inside v at part fits (k - at) (omega arith)
        ∙ sym (overwritten_inside (λ i. get_or v i 0) at part k from inside))
    | inr behind ↦ written_behind v at part fits k behind ∙ sym (overwritten_behind (λ i. get_or v i 0) at part k behind)
  ]
]

-- two words after some of their bytes, `cells`, are overwritten
pub pair_overwritten : (words new cells after : List ℕ) (at : ℕ) (part : List ℕ) → length words ≡ 2 → length new ≡ 2 → length cells ≡ 16
    → at + length part ≤ 16 → ((k : ℕ) → k < 16 → get_or cells k 0 ≡ byte_in words k) → after ≡ written cells at part
    → ((k : ℕ) → k < 16 → byte_in new k ≡ get_or after k 0) → (k : ℕ) → byte_in new k ≡ overwritten (byte_in words) at part k
pair_overwritten words new cells after at part two too long fits has is put k = elim (cases_lt k 16) [
  | inl lt ↦ put k lt ∙ ap (λ xs. get_or xs k 0) is ∙ written_byte cells at part (omega arith) k
      ∙ overwritten_same (λ i. get_or cells i 0) (byte_in words) at part k (has k lt)
  | inr past ↦ ap (byte_of (k % 8)) (get_or_past new (k / 8) 0 (omega arith) ∙ sym (get_or_past words (k / 8) 0 (omega arith)))
      ∙ sym (overwritten_behind (byte_in words) at part k (omega arith))
]

-- bytes are written in three parts: those before byte x of them, those before byte y, and the rest
pub all_overwritten : (f g h i : ℕ → ℕ) (at x y : ℕ) (bytes : List ℕ) → x ≤ y → y ≤ length bytes
    → ((k : ℕ) → g k ≡ overwritten f at (take x bytes) k) → ((k : ℕ) → h k ≡ overwritten g (at + x) (take (y - x) (drop x bytes)) k)
    → ((k : ℕ) → i k ≡ overwritten h (at + y) (take (length bytes - y) (drop y bytes)) k) → (k : ℕ) → i k ≡ overwritten f at bytes k
all_overwritten f g h i at x y bytes order within one two three k =
    let both : h k ≡ overwritten f at (take y bytes) k =
    two k ∙ overwritten_same g (overwritten f at (take x bytes)) (at + x) (take (y - x) (drop x bytes)) k (one k)
    ∙ overwritten_more f at x (y - x) bytes (omega arith) k ∙ ap (λ (n : ℕ). overwritten f at (take n bytes) k) (let e : x + (y - x) ≡ y = omega arith in e) in
    three k ∙ overwritten_same h (overwritten f at (take y bytes)) (at + y) (take (length bytes - y) (drop y bytes)) k both
    ∙ overwritten_more f at y (length bytes - y) bytes (omega arith) k
    ∙ ap (λ (part : List ℕ). overwritten f at part k) (take_all (y + (length bytes - y)) bytes (omega arith))

-- the same bytes, counted from a later byte
pub overwritten_shift : (f g : ℕ → ℕ) (d at : ℕ) (part : List ℕ) (k : ℕ) → d ≤ k → g (k - d) ≡ f k
    → overwritten g at part (k - d) ≡ overwritten f (d + at) part k
overwritten_shift f g d at part k le same = elim (cases_lt (k - d) at) [
  | inl before ↦ overwritten_before g at part (k - d) before ∙ same ∙ sym (overwritten_before f (d + at) part k (omega arith))
  | inr from ↦ elim (cases_lt (k - d) (at + length part)) [
    | inl inside ↦ (
        let e : k - d - at ≡ k - (d + at) = omega arith in
        overwritten_inside g at part (k - d) from inside ∙ ap (λ i. get_or part i 0) e
        ∙ sym (overwritten_inside f (d + at) part k (omega arith) (omega arith)))
    | inr behind ↦ overwritten_behind g at part (k - d) behind ∙ same ∙ sym (overwritten_behind f (d + at) part k (omega arith))
  ]
]

-- the word that has byte `at` gets its new bytes
pub word_overwritten : (words : List ℕ) (at word : ℕ) (part : List ℕ) → at / 8 < length words → at % 8 + length part ≤ 8
    → ((j : ℕ) → j < 8 → byte_of j word ≡ overwritten (λ i. byte_of i (get_or words (at / 8) 0)) (at % 8) part j)
    → (k : ℕ) → byte_in (set words (at / 8) word) k ≡ overwritten (byte_in words) at part k
word_overwritten words at word part inside fits patch k = elim (cases_eq (k / 8) (at / 8)) [
  | inl is ↦ (
      let low : k % 8 ≡ k - 8 * (at / 8) = omega arith in
      let from : 8 * (at / 8) + at % 8 ≡ at = omega arith in
      let was : byte_of (k - 8 * (at / 8)) (get_or words (at / 8) 0) ≡ byte_in words k =
      ap (λ i. byte_of i (get_or words (at / 8) 0)) (sym low) ∙ ap (λ i. byte_of (k % 8) (get_or words i 0)) (sym is) in
      ap (λ i. byte_of (k % 8) (get_or (set words (at / 8) word) i 0)) is ∙ ap (byte_of (k % 8)) (get_or-set_same words (at / 8) word 0 inside)
      ∙ ap (λ i. byte_of i word) low ∙ patch (k - 8 * (at / 8)) (omega arith)
      ∙ overwritten_shift (byte_in words) (λ i. byte_of i (get_or words (at / 8) 0)) (8 * (at / 8)) (at % 8) part k (omega arith) was
      ∙ ap (λ (a : ℕ). overwritten (byte_in words) a part k) from)
  | inr ne ↦ ap (byte_of (k % 8)) (get_or-set_other words (at / 8) (k / 8) word 0 ne) ∙ sym (elim (cases_lt k at) [
    | inl before ↦ overwritten_before (byte_in words) at part k before
    | inr from ↦ overwritten_behind (byte_in words) at part k (omega arith)
  ])
]

-- byte j of a word, as the standard library defines it
pub cell_byte : (w j : ℕ) → j < 8 → get_or (to_le_bytes w64 w) j 0 ≡ byte_of j w
cell_byte w zero lt = refl
cell_byte w (suc zero) lt = omega arith
cell_byte w (suc (suc zero)) lt = omega arith
cell_byte w (suc (suc (suc zero))) lt = omega arith
cell_byte w (suc (suc (suc (suc zero)))) lt = omega arith
cell_byte w (suc (suc (suc (suc (suc zero))))) lt = omega arith
cell_byte w (suc (suc (suc (suc (suc (suc zero)))))) lt = omega arith
cell_byte w (suc (suc (suc (suc (suc (suc (suc zero))))))) lt = omega arith
cell_byte w (suc (suc (suc (suc (suc (suc (suc (suc j)))))))) lt = absurd (omega arith)

-- a word after some of its bytes are overwritten
pub word_patched : (word from result : ℕ) (cell part : List ℕ) → word < 2 ^ 64 → from + length part ≤ 8 → AreBytes part
    → cell ≡ written (to_le_bytes w64 word) from part → result ≡ from_le_bytes w64 cell
    → (j : ℕ) → j < 8 → byte_of j result ≡ overwritten (λ k. byte_of k word) from part j
word_patched word from result cell part small fits bytes is gives j lt =
    let old = to_le_bytes w64 word in
    let len : length cell ≡ 8 = ap length is ∙ length-written (to_le_bytes w64 word) from part fits in
    let good : AreBytes cell = rw is (written_are_bytes (to_le_bytes w64 word) from part fits (cell_bytes word) bytes) in
    let back : to_le_bytes w64 result ≡ cell = le_bytes_8 cell result len good gives in
    sym (cell_byte result j lt) ∙ ap (λ xs. get_or xs j 0) (back ∙ is) ∙ elim (cases_lt j from) [
      | inl before ↦ written_before (to_le_bytes w64 word) from part fits j before ∙ cell_byte word j lt
          ∙ sym (overwritten_before (λ k. byte_of k word) from part j before)
      | inr from_on ↦ elim (cases_lt j (from + length part)) [
        | inl inside ↦ (
            let e : from + (j - from) ≡ j = omega arith in
            ap (λ i. get_or (written (to_le_bytes w64 word) from part) i 0) (sym e)
            ∙ written_inside (to_le_bytes w64 word) from part fits (j - from) (omega arith)
            ∙ sym (overwritten_inside (λ k. byte_of k word) from part j from_on inside))
        | inr behind ↦ written_behind (to_le_bytes w64 word) from part fits j behind ∙ cell_byte word j lt
            ∙ sym (overwritten_behind (λ k. byte_of k word) from part j behind)
      ]
    ]
  where
    cell_bytes : (w : ℕ) → AreBytes (to_le_bytes w64 w)
    cell_bytes w i = elim (cases_lt i 8) [
      | inl l ↦ rw (cell_byte w i l) (byte_below i w)
      | inr past ↦ rw (get_or_past (to_le_bytes w64 w) i 0 past) (lit< tt)
    ]

-- eight bytes as a word
abbrev cell_of : List ℕ → List ℕ
cell_of part =
    get_or part 0 0 ∷ get_or part 1 0 ∷ get_or part 2 0 ∷ get_or part 3 0 ∷ get_or part 4 0 ∷ get_or part 5 0 ∷ get_or part 6 0 ∷ get_or part 7 0 ∷ []

cell_same : (part : List ℕ) (j : ℕ) → j < 8 → get_or (cell_of part) j 0 ≡ get_or part j 0
cell_same part zero lt = refl
cell_same part (suc zero) lt = refl
cell_same part (suc (suc zero)) lt = refl
cell_same part (suc (suc (suc zero))) lt = refl
cell_same part (suc (suc (suc (suc zero)))) lt = refl
cell_same part (suc (suc (suc (suc (suc zero))))) lt = refl
cell_same part (suc (suc (suc (suc (suc (suc zero)))))) lt = refl
cell_same part (suc (suc (suc (suc (suc (suc (suc zero))))))) lt = refl
cell_same part (suc (suc (suc (suc (suc (suc (suc (suc j)))))))) lt = absurd (omega arith)

pub word_from : (part : List ℕ) (result : ℕ) → AreBytes part → result ≡ from_le_bytes w64 (cell_of part) → (j : ℕ) → j < 8 → byte_of j result ≡ get_or part j 0
word_from part result bytes gives j lt =
    let good : AreBytes (cell_of part) = λ i. elim (cases_lt i 8) [
      | inl l ↦ rw (cell_same part i l) (bytes i)
      | inr past ↦ rw (get_or_past (cell_of part) i 0 past) (lit< tt)
    ] in
    sym (cell_byte result j lt) ∙ ap (λ xs. get_or xs j 0) (le_bytes_8 (cell_of part) result refl good gives) ∙ cell_same part j lt
