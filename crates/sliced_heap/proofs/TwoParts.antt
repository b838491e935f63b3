-- The two halves of an object in motion: the address of a word in each half. Two reads or writes, one in each half, are one of all the bytes, and no word is
-- counted in both.
use Rattle.std.proofs.Common.{◌≡◌, ℕ, ◌+◌, ◌-◌, ◌/◌, ◌%◌, ◌<◌, ◌≤◌, List, length, get_or, ◌++◌, take, drop}
use Rattle.std.proofs.Common.{arith, sym, ◌∙◌, ap, inl, inr, length-append, length-drop}
use Rattle.std.specs.Prelude.{◌⊎◌}
use Rattle.std.proofs.lemmas.Bool.{cases_lt}
use Rattle.std.proofs.lemmas.Bool.Decides.{nat_tests}
use Rattle.std.proofs.lemmas.List.{get_or_append_left, get_or-append_right, length-take, get_or-take, get_or-drop, take_all}
use Rattle.cf_base.proofs.Tests.{le_yes, le_no}
use Rattle.cf_model.specs.Costs.{words_touched}
use Rattle.page_model.specs.Bytes.{byte_of}
use Rattle.step_ledger.specs.Counting.{RoseBy}
use Rattle.step_ledger.proofs.CallerLemmas.{rose_both, rose_by}
use Rattle.region.specs.Cells.{overwritten}
use Rattle.region.specs.Overwriting.{byte_from}
use Rattle.region.proofs.CallerLemmas.{overwritten_before, overwritten_behind, overwritten_inside, overwritten_same}
use Rattle.sliced_heap.specs.Halves.{HalvesAreApart, byte_in_halves, first_bytes, place_of_word}
use Rattle.sliced_heap.specs.Writes.{IsTouched, WritesByPlaces, byte_by, word_from}
use Rattle.sliced_heap.specs.declared.halves.Halves.{Halves}

-- the address of word i of the first half; below, of the second half
pub word_low : (s : Halves) (i : ℕ) → i < s.done → place_of_word s i ≡ s.to + i
word_low s i lt = (let f = le_no s.done i lt in rw f)

pub word_high : (s : Halves) (i : ℕ) → s.done ≤ i → place_of_word s i ≡ s.from + i
word_high s i le = (let f = le_yes s.done i le in rw f)

-- writing only the first bytes has the effect of writing all of them on each byte before the first half's end
front_same : (f : ℕ → ℕ) (at first : ℕ) (bytes : List ℕ) (k : ℕ) → first ≤ length bytes → (k < at + first) ⊎ (first ≡ length bytes)
    → overwritten f at (take first bytes) k ≡ overwritten f at bytes k
front_same f at first bytes k le (inr all) = ap (λ part. overwritten f at part k) (take_all first bytes (omega arith))
front_same f at first bytes k le (inl lt) =
    let len = length-take first bytes in
    elim (cases_lt k at) [
      | inl before ↦ overwritten_before f at (take first bytes) k before ∙ sym (overwritten_before f at bytes k before)
      | inr from ↦ overwritten_inside f at (take first bytes) k from (omega arith) ∙ get_or-take first bytes (k - at) 0 (omega arith)
          ∙ sym (overwritten_inside f at bytes k from (omega arith))
    ]

-- writing only the other bytes has the effect of writing all of them on each byte from the first half's end on
rest_same : (f : ℕ → ℕ) (at first : ℕ) (bytes : List ℕ) (k : ℕ) → first ≤ length bytes → at + first ≤ k
    → overwritten f (at + first) (drop first bytes) k ≡ overwritten f at bytes k
rest_same f at first bytes k le from =
    let len = length-drop first bytes in
    elim (cases_lt k (at + length bytes)) [
      | inl inside ↦ (
          let e : first + (k - (at + first)) ≡ k - at = omega arith in
          overwritten_inside f (at + first) (drop first bytes) k from (omega arith) ∙ get_or-drop first bytes (k - (at + first)) 0
          ∙ ap (λ i. get_or bytes i 0) e ∙ sym (overwritten_inside f at bytes k (omega arith) inside))
      | inr behind ↦ overwritten_behind f (at + first) (drop first bytes) k (omega arith) ∙ sym (overwritten_behind f at bytes k behind)
    ]

module _ (s : Halves) (at count : ℕ) where
  abbrev first : ℕ
  first = first_bytes s at count

  -- the words that hold a byte of the first half, and those that hold one of the second
  in_first : (i : ℕ) → IsTouched at first i → (i < s.done) × IsTouched at count i
  in_first i t = (let some = t.some in let low = t.first in let high = t.last in
      (omega arith, record { some = omega arith; first = low; last = omega arith }))

  in_rest : (i : ℕ) → IsTouched (at + first) (count - first) i → (s.done ≤ i) × IsTouched at count i
  in_rest i t = (let some = t.some in let low = t.first in let high = t.last in
      (omega arith, record { some = omega arith; first = omega arith; last = omega arith }))

  touched_first : (i : ℕ) → i < s.done → IsTouched at count i → IsTouched at first i
  touched_first i lt t = (let some = t.some in let low = t.first in let high = t.last in
      record { some = omega arith; first = low; last = omega arith })

  touched_rest : (i : ℕ) → s.done ≤ i → IsTouched at count i → IsTouched (at + first) (count - first) i
  touched_rest i le t = (let some = t.some in let low = t.first in let high = t.last in
      record { some = omega arith; first = omega arith; last = omega arith })

  -- a byte in a word of the first half is before the second part of the write, if that part is not empty
  low_byte : (k : ℕ) → 1 + k / 8 < s.done → (k < at + first) ⊎ (first ≡ count)
  low_byte k lt = elim (cases_lt first count) [
    | inl less ↦ inl (omega arith)
    | inr all ↦ inr (omega arith)
  ]

  -- a byte in a word of the second half is after the first part of the write, if that part is not empty
  high_byte : (k : ℕ) → s.done ≤ 1 + k / 8 → (at + first ≤ k) ⊎ (first ≡ 0)
  high_byte k le = elim (cases_lt 0 first) [
    | inl some ↦ inl (omega arith)
    | inr none ↦ inr (omega arith)
  ]

  -- no word holds bytes of both halves
  pub touched_apart : words_touched at first + words_touched (at + first) (count - first) ≡ words_touched at count
  touched_apart = grind (arith, nat_tests)

-- two writes, one in each half, are one write of all the bytes
module _ (s : Halves) (at : ℕ) (bytes : List ℕ) (apart : HalvesAreApart s (1 + (at + length bytes + 7) / 8)) (old mid new : List ℕ) where
  abbrev n : ℕ
  n = first_bytes s at (length bytes)

  few : n ≤ length bytes
  few = omega arith

  front_long : length (take n bytes) ≡ n
  front_long = (let l = length-take n bytes in let f = few in omega arith)

  rest_long : length (drop n bytes) ≡ length bytes - n
  rest_long = (let l = length-drop n bytes in omega arith)

  pub two_parts : WritesByPlaces old mid (word_from s.to) at (take n bytes) → WritesByPlaces mid new (word_from s.from) (at + n) (drop n bytes)
      → WritesByPlaces old new (place_of_word s) at bytes
  two_parts a b = record {
    others = λ w out.
        b.others w (λ i t. (let r = in_rest s at (length bytes) i (rest_of i t) in λ e. out i r.1 (word_high s i r.0 ∙ e)))
        ∙ a.others w (λ i t. (let r = in_first s at (length bytes) i (front_of i t) in λ e. out i r.1 (word_low s i r.0 ∙ e)));
    small = λ i t. elim (cases_lt i s.done) [
      | inl lt ↦ (let e = word_low s i lt in let f = first_stays i lt t in rw (e, f) (a.small i (of_front i (touched_first s at (length bytes) i lt t))))
      | inr le ↦ (let e = word_high s i le in rw e (b.small i (of_rest i (touched_rest s at (length bytes) i le t))))
    ];
    value = λ k t. elim (cases_lt (1 + k / 8) s.done) [
      | inl lt ↦ (
          let e = word_low s (1 + k / 8) lt in
          ap (λ p. byte_of (k % 8) (get_or new p 0)) e ∙ ap (byte_of (k % 8)) (first_stays (1 + k / 8) lt t)
          ∙ a.value k (of_front (1 + k / 8) (touched_first s at (length bytes) (1 + k / 8) lt t))
          ∙ overwritten_same (byte_by (word_from s.to) old) (byte_by (place_of_word s) old) at (take n bytes) k
          (ap (λ p. byte_of (k % 8) (get_or old p 0)) (sym e))
          ∙ front_same (byte_by (place_of_word s) old) at n bytes k few (low_byte s at (length bytes) k lt))
      | inr le ↦ (
          let e = word_high s (1 + k / 8) le in
          ap (λ p. byte_of (k % 8) (get_or new p 0)) e
          ∙ b.value k (of_rest (1 + k / 8) (touched_rest s at (length bytes) (1 + k / 8) le t))
          ∙ overwritten_same (byte_by (word_from s.from) mid) (byte_by (place_of_word s) old) (at + n) (drop n bytes) k
          (ap (byte_of (k % 8)) (second_stood (1 + k / 8) le t) ∙ ap (λ p. byte_of (k % 8) (get_or old p 0)) (sym e))
          ∙ behind k (high_byte s at (length bytes) k le))
    ];
  }
    where
      rest_of : (i : ℕ) → IsTouched (at + n) (length (drop n bytes)) i → IsTouched (at + n) (length bytes - n) i
      rest_of i t = (let e = rest_long in rw e at t)

      front_of : (i : ℕ) → IsTouched at (length (take n bytes)) i → IsTouched at n i
      front_of i t = (let e = front_long in rw e at t)

      of_rest : (i : ℕ) → IsTouched (at + n) (length bytes - n) i → IsTouched (at + n) (length (drop n bytes)) i
      of_rest i t = (let e = rest_long in rw e t)

      of_front : (i : ℕ) → IsTouched at n i → IsTouched at (length (take n bytes)) i
      of_front i t = (let e = front_long in rw e t)

      within : (i : ℕ) → IsTouched at (length bytes) i → i < 1 + (at + length bytes + 7) / 8
      within i t = (let some = t.some in let last = t.last in omega arith)

      -- the second part leaves the words of the first half, and the first one those of the second
      first_stays : (i : ℕ) → i < s.done → IsTouched at (length bytes) i → get_or new (s.to + i) 0 ≡ get_or mid (s.to + i) 0
      first_stays i lt t = b.others (s.to + i) (λ k u. (
          let r = in_rest s at (length bytes) k (rest_of k u) in
          λ e. apart i k lt r.0 (within k r.1) (sym e)))

      second_stood : (k : ℕ) → s.done ≤ k → IsTouched at (length bytes) k → get_or mid (s.from + k) 0 ≡ get_or old (s.from + k) 0
      second_stood k le t = a.others (s.from + k) (λ i u. (
          let r = in_first s at (length bytes) i (front_of i u) in
          apart i k r.0 le (within k t)))

      nothing_before : (f : ℕ → ℕ) (m : ℕ) → m ≡ 0 → (k : ℕ) → overwritten f (at + m) (drop m bytes) k ≡ overwritten f at bytes k
      nothing_before f m none k = (let e : at + 0 ≡ at = omega arith in rw (none, e))

      behind : (k : ℕ) → (at + n ≤ k) ⊎ (n ≡ 0) → overwritten (byte_by (place_of_word s) old) (at + n) (drop n bytes) k
          ≡ overwritten (byte_by (place_of_word s) old) at bytes k
      behind k (inl le) = rest_same (byte_by (place_of_word s) old) at n bytes k few le
      behind k (inr none) = nothing_before (byte_by (place_of_word s) old) n none k

-- the steps of the two reads or writes, one in each half, are one for each word that holds one of the bytes
pub two_counts : (s : Halves) (at count f l r x y z : ℕ) → f ≡ first_bytes s at count → l ≡ f → r ≡ count - f → RoseBy x y (words_touched at l)
    → RoseBy y z (words_touched (at + f) r) → RoseBy x z (words_touched at count)
two_counts s at count f l r x y z is left right a b =
    let all = touched_apart s at count in
    let p : words_touched at l ≡ words_touched at (first_bytes s at count) = ap (words_touched at) (left ∙ is) in
    let q : words_touched (at + f) r ≡ words_touched (at + first_bytes s at count) (count - first_bytes s at count) =
    ap (words_touched (at + f)) right ∙ ap (λ f. words_touched (at + f) (count - f)) is in
    rose_by x z (words_touched at l + words_touched (at + f) r) (words_touched at count) (omega arith) (rose_both x y z _ _ a b)

-- two reads, one from each half, return the bytes of the object
pub read_two : (s : Halves) (at count f : ℕ) (words a b : List ℕ) → f ≡ first_bytes s at count → length a ≡ f → length b ≡ count - f
    → ((j : ℕ) → j < length a → get_or a j 0 ≡ byte_from words (s.to + 1) (at + j))
    → ((j : ℕ) → j < length b → get_or b j 0 ≡ byte_from words (s.from + 1) (at + f + j))
    → (j : ℕ) → j < length (a ++ b) → get_or (a ++ b) j 0 ≡ byte_in_halves s words (at + j)
read_two s at count f words a b is left right low high j lt = elim (cases_lt j f) [
  | inl before ↦ (
      let e : s.to + 1 + (at + j) / 8 ≡ s.to + (1 + (at + j) / 8) = omega arith in
      get_or_append_left a b 0 j (omega arith) ∙ low j (omega arith)
      ∙ ap (λ w. byte_of ((at + j) % 8) (get_or words w 0)) (e ∙ sym (word_low s (1 + (at + j) / 8) (omega arith))))
  | inr from ↦ (
      let both = length-append a b in
      let e : at + f + (j - f) ≡ at + j = omega arith in
      let g : s.from + 1 + (at + j) / 8 ≡ s.from + (1 + (at + j) / 8) = omega arith in
      get_or-append_right a b f j 0 left from ∙ high (j - f) (omega arith) ∙ ap (byte_from words (s.from + 1)) e
      ∙ ap (λ w. byte_of ((at + j) % 8) (get_or words w 0)) (g ∙ sym (word_high s (1 + (at + j) / 8) (omega arith))))
]
