-- For the calls of `SlotMap` and of `SlotMaps`: the slots of a page as bits of its words, what writing one bit does to them and to the two summary words, how
-- these lead to the lowest free or used slot, and the words and the summary of a page without a used slot.
use Rattle.std.proofs.Common.{◌≡◌, ◌≢◌, ℕ, ◌+◌, ◌-◌, ◌*◌, ◌/◌, ◌%◌, ◌^◌, ◌<◌, ◌≤◌, ◌==◌, Bool, true, false, cond, not, List, length, get_or, set, replicate}
use Rattle.std.proofs.Common.{Some, None, arith, refl, ap, sym, ◌∙◌, inl, inr, w64}
use Rattle.std.specs.Prelude.{slice_get}
use Rattle.std.specs.Int.{bit_at, div_ceil, trailing_zeros}
use Rattle.std.specs.List.{position, count_by}
use Rattle.std.proofs.lemmas.Bool.{cases_eq, cases_lt, eq-eqb, ne_eqb, not-true}
use Rattle.std.proofs.lemmas.List.{same_lists, length-set, length-replicate, get_or-replicate, get_or-set_same, get_or-set_other}
use Rattle.std.proofs.lemmas.List.FromFn.{length-map-range_with_len, get_or-map-range_with_len}
use Rattle.std.proofs.lemmas.List.Sums.{count_by-le-length}
use Rattle.std.proofs.lemmas.Nat.{pow_pos, pow_below}
use Rattle.std.proofs.lemmas.List.Quantifiers.{position-Some}
use Rattle.std.proofs.Math.Pow.{pow_mono}
use Rattle.std.proofs.lemmas.Nat.Bits.{bit_at-zero, bit_at-trailing_zeros, bit_at_ones, bit_at_above, bit_at_ones_above, same_from_bits_below}
use Rattle.std.proofs.lemmas.Option.{slice_get_within, slice_get-get_or}
use Rattle.cf_base.proofs.Positions.{position_is, position_none}
use Rattle.slot_bitmap.proofs.CallerLemmas.{counted_set, count-replicate}
use Rattle.cf_base.specs.Bits.{WritesBit}
use Rattle.slot_bitmap.specs.declared.page_summary.PageSummary.{PageSummary}
use Rattle.slot_bitmap.specs.Layout.{bits_in, is_used, slots_in_words, has_free, has_used, word_in, IsValid}

-- the first free slot is free
pub found_free : (xs : List Bool) (i : ℕ) → Some i ≡ position (λ u. not u) xs → slice_get xs i ≡ Some false
found_free xs i e =
    let h = position-Some (λ u. not u) xs i true (sym e) in
    slice_get-get_or xs i true h.0 ∙ ap Some (not-true (get_or xs i true) h.1)

pub found_used : (xs : List Bool) (i : ℕ) → Some i ≡ position (λ u. u) xs → slice_get xs i ≡ Some true
found_used xs i e =
    let h = position-Some (λ u. u) xs i true (sym e) in
    slice_get-get_or xs i true h.0 ∙ ap Some h.1

-- a bit that is set is within the width of the number
bit_inside : (x n b : ℕ) → x < 2 ^ n → bit_at x b ≡ 1 → b < n
bit_inside x n b small on = elim (cases_lt b n) [ inl lt ↦ lt | inr ge ↦ absurd (omega (arith, bit_at_above x n b small ge)) ]

-- ---- the slots, one by one

pub length-slots_of : (word : ℕ → ℕ) (n : ℕ) → length (slots_in_words word n) ≡ n
unfolding slots_in_words
length-slots_of word n = length-map-range_with_len (is_used word) 0 n

slot-at : (word : ℕ → ℕ) (n i : ℕ) (d : Bool) → i < n → get_or (slots_in_words word n) i d ≡ is_used word i
unfolding slots_in_words
slot-at word n i d lt = get_or-map-range_with_len (is_used word) 0 n i i d lt (omega arith)

-- a slot that the list has is one of the n
pub slot_within : (word : ℕ → ℕ) (n i : ℕ) (b : Bool) → slice_get (slots_in_words word n) i ≡ Some b → i < n
slot_within word n i b h = omega (arith, slice_get_within (slots_in_words word n) i b h, length-slots_of word n)

used_from_bit : (word : ℕ → ℕ) (i : ℕ) (b : Bool) → bit_at (word (i / 64)) (i % 64) ≡ cond b 1 0 → is_used word i ≡ b
used_from_bit word i true h = eq-eqb _ 1 h
used_from_bit word i false h = ne_eqb _ 1 (λ e. absurd (omega arith))

pub slot_shown : (word : ℕ → ℕ) (n i : ℕ) (b : Bool) → i < n → bit_at (word (i / 64)) (i % 64) ≡ cond b 1 0
    → slice_get (slots_in_words word n) i ≡ Some b
slot_shown word n i b lt is =
    slice_get-get_or (slots_in_words word n) i b (omega (arith, length-slots_of word n)) ∙ ap Some (slot-at word n i b lt ∙ used_from_bit word i b is)

pub counted_within : (word : ℕ → ℕ) (n : ℕ) → count_by (λ u. u) (slots_in_words word n) ≤ n
counted_within word n = omega (arith, count_by-le-length (λ u. u) (slots_in_words word n), length-slots_of word n)

pub counted_some : (word : ℕ → ℕ) (n i : ℕ) → slice_get (slots_in_words word n) i ≡ Some true → 1 ≤ count_by (λ u. u) (slots_in_words word n)
counted_some word n i h = omega (arith, counted_set (slots_in_words word n) i true false h)

-- ---- no slot is used

-- if the lowest ⌈n / 64⌉ bits of a summary are set, bit j is set if and only if word j has a bit for a slot
each_word : (n full j : ℕ) → full + 1 ≡ 2 ^ div_ceil n 64 → bit_at full j ≡ cond (not (1 == 2 ^ bits_in n j)) 1 0
each_word n full j is =
    let e : full ≡ 2 ^ div_ceil n 64 - 1 = omega arith in
    elim (cases_lt j (div_ceil n 64)) [
      | inl lt ↦
          let some : 0 < bits_in n j = omega arith in
          let large : 1 < 2 ^ bits_in n j = pow_below 0 (bits_in n j) some in
          rw (e, bit_at_ones (div_ceil n 64) j lt, ne_eqb 1 (2 ^ bits_in n j) (λ one. absurd (omega arith))) refl
      | inr ge ↦
          let none : bits_in n j ≡ 0 = omega arith in
          rw (e, bit_at_ones_above (div_ceil n 64) j ge, none) refl
    ]

module _ (w : ℕ) (word : ℕ → ℕ) (n : ℕ) (few : n ≤ 64 * w) (clear : (j : ℕ) → j < w → word j ≡ 0) where
  pub all_free : slots_in_words word n ≡ replicate n false
  all_free = same_lists _ _ (length-slots_of word n ∙ sym (length-replicate n false)) (λ k d h.
      let lt : k < n = omega (arith, length-slots_of word n) in
      slot-at word n k d lt ∙ used_from_bit word k false (rw (clear (k / 64) (omega arith), bit_at-zero) refl) ∙ sym (get_or-replicate n k false d lt))

  pub valid_new : (full : ℕ) → w ≤ 64 → full + 1 ≡ 2 ^ div_ceil n 64 → IsValid w word (record { with_free = full; with_used = 0; slots = n; used = 0 })
  valid_new full short is = record {
    short = short;
    few = few;
    free_within = omega (arith, pow_mono {i = div_ceil n 64} {j = w} (omega arith));
    used_within = pow_pos w;
    clean = λ j lt. rw (clear j lt) (pow_pos (bits_in n j));
    some_free = λ j lt. rw (clear j lt) (each_word n full j is);
    some_used = λ j lt. rw (clear j lt, bit_at-zero) refl;
    counted = rw all_free (sym (count-replicate n));
  }

-- if no slot is used, no word has a bit set
module _ (w : ℕ) (word : ℕ → ℕ) (s : PageSummary) (v : IsValid w word s) (none : count_by (λ u. u) (slots_in_words word s.slots) ≡ 0) where
  pub words_clear : (j : ℕ) → j < w → word j ≡ 0
  words_clear j lt = elim (cases_eq (word j) 0) [
    | inl e ↦ e
    | inr ne ↦ (
        let short = v.short in
        let few = v.few in
        let clean = v.clean j lt in
        let low = bit_at-trailing_zeros w64 (word j) (omega arith) (omega (arith, clean, pow_mono {i = bits_in s.slots j} {j = 64} (omega arith))) in
        let b = trailing_zeros w64 (word j) in
        let inside : b < bits_in s.slots j = bit_inside (word j) (bits_in s.slots j) b clean low.1 in
        let row : (64 * j + b) / 64 ≡ j = omega arith in
        let column : (64 * j + b) % 64 ≡ b = omega arith in
        let on : slice_get (slots_in_words word s.slots) (64 * j + b) ≡ Some true = slot_shown word s.slots (64 * j + b) true (omega arith) (rw (row, column) low.1) in
        absurd (omega (arith, counted_some word s.slots (64 * j + b) on)))
  ]

  -- the page gets another number of slots, all free
  pub valid_renewed : (n full : ℕ) → n ≤ 64 * w → full + 1 ≡ 2 ^ div_ceil n 64
      → IsValid w word (record { with_free = full; with_used = 0; slots = n; used = s.used })
  valid_renewed n full few is = rw (v.counted ∙ none) (valid_new w word n few words_clear full v.short is)

-- ---- the words of a page stay

module _ (w : ℕ) (word now : ℕ → ℕ) (s : PageSummary) (v : IsValid w word s) (same : (j : ℕ) → j < w → now j ≡ word j) where
  pub same_slots : slots_in_words now s.slots ≡ slots_in_words word s.slots
  same_slots = same_lists _ _ (length-slots_of now s.slots ∙ sym (length-slots_of word s.slots)) (λ k d h.
      let lt : k < s.slots = omega (arith, length-slots_of now s.slots) in
      let bit : is_used now k ≡ is_used word k = rw (same (k / 64) (omega (arith, v.few))) refl in
      slot-at now s.slots k d lt ∙ bit ∙ sym (slot-at word s.slots k d lt))

  pub valid_same : IsValid w now s
  valid_same = record {
    short = v.short;
    few = v.few;
    free_within = v.free_within;
    used_within = v.used_within;
    clean = λ j lt. rw (same j lt) (v.clean j lt);
    some_free = λ j lt. rw (same j lt) (v.some_free j lt);
    some_used = λ j lt. rw (same j lt) (v.some_used j lt);
    counted = rw same_slots v.counted;
  }

-- ---- one slot is written: slot i, which is bit b of word j

module _ (word now : ℕ → ℕ) (n i j b x : ℕ) (on : Bool) (lt : i < n) (row : i / 64 ≡ j) (column : i % 64 ≡ b) (here : now j ≡ x)
    (others : (k : ℕ) → k ≢ j → now k ≡ word k) (wrote : WritesBit 64 (word j) x b on) where
  written_here : is_used now i ≡ on
  written_here = used_from_bit now i on (rw (row, column, here) wrote.at)

  written_elsewhere : (k : ℕ) → k ≢ i → is_used now k ≡ is_used word k
  written_elsewhere k ne = elim (cases_eq (k / 64) j) [
    | inl e ↦ let off : k % 64 ≢ b = λ r. ne (omega arith) in
        rw (e, here, wrote.others (k % 64) (omega arith) off) refl
    | inr off ↦ rw (others (k / 64) off) refl
  ]

  pub written : slots_in_words now n ≡ set (slots_in_words word n) i on
  written = same_lists _ _ (length-slots_of now n ∙ sym (length-slots_of word n) ∙ sym (length-set (slots_in_words word n) i on)) (λ k d h.
      let short : k < n = omega (arith, length-slots_of now n) in
      slot-at now n k d short ∙ elim (cases_eq k i) [
        | inl e ↦ rw (e, get_or-set_same (slots_in_words word n) i on d (omega (arith, length-slots_of word n))) written_here
        | inr ne ↦ rw (get_or-set_other (slots_in_words word n) i k on d ne) (written_elsewhere k ne ∙ sym (slot-at word n k d short))
      ])

-- bit j of a summary is written and agrees with word j; the others stay
summary_kept : (w j s s' : ℕ) (on : Bool) (old new : ℕ → Bool) → w ≤ 64 → WritesBit 64 s s' j on → on ≡ new j → ((k : ℕ) → k ≢ j → new k ≡ old k)
    → ((k : ℕ) → k < w → bit_at s k ≡ cond (old k) 1 0) → (k : ℕ) → k < w → bit_at s' k ≡ cond (new k) 1 0
summary_kept w j s s' on old new short wrote here there was k lt = elim (cases_eq k j) [
  | inl e ↦ rw (e, wrote.at, here) refl
  | inr ne ↦ rw (wrote.others k (omega arith) ne, was k lt, there k ne) refl
]

bit_makes_used : (x k : ℕ) → bit_at x k ≡ 1 → true ≡ not (x == 0)
bit_makes_used x k on = rw (ne_eqb x 0 (λ e. let off : bit_at x k ≡ 0 = rw e (bit_at-zero k) in absurd (omega arith))) refl

bit_makes_free : (x n k : ℕ) → k < n → bit_at x k ≡ 0 → true ≡ not (x + 1 == 2 ^ n)
bit_makes_free x n k lt off = rw (ne_eqb (x + 1) (2 ^ n) (λ e.
    let full : x ≡ 2 ^ n - 1 = omega arith in
    let on : bit_at x k ≡ 1 = rw full (bit_at_ones n k lt) in
    absurd (omega arith))) refl

full_word : (x full p : ℕ) → full + 1 ≡ p → not (x == full) ≡ not (x + 1 == p)
full_word x full p is = elim (cases_eq x full) [
  | inl e ↦ rw (eq-eqb x full e, eq-eqb (x + 1) p (omega arith)) refl
  | inr ne ↦ rw (ne_eqb x full ne, ne_eqb (x + 1) p (λ e. ne (omega arith))) refl
]

-- the slot becomes used, or free
module _ (w : ℕ) (word now : ℕ → ℕ) (s : PageSummary) (i j b x f u : ℕ) (v : IsValid w word s) (row : i / 64 ≡ j) (column : i % 64 ≡ b) (here : now j ≡ x)
    (others : (k : ℕ) → k ≢ j → now k ≡ word k) (within : (m : ℕ) → b < m → word j < 2 ^ m → x < 2 ^ m)
    (free_within : (m : ℕ) → j < m → s.with_free < 2 ^ m → f < 2 ^ m) (used_within : (m : ℕ) → j < m → s.with_used < 2 ^ m → u < 2 ^ m) where
  place : (was : Bool) → slice_get (slots_in_words word s.slots) i ≡ Some was → (i < s.slots) × (j < w) × (b < bits_in s.slots j)
  place was h =
      let few = v.few in
      let lt = slot_within word s.slots i was h in
      (lt, omega arith, omega arith)

  valid_written : (was on free used : Bool) (c : ℕ) → slice_get (slots_in_words word s.slots) i ≡ Some was → WritesBit 64 (word j) x b on
      → WritesBit 64 s.with_free f j free → free ≡ not (x + 1 == 2 ^ bits_in s.slots j) → WritesBit 64 s.with_used u j used → used ≡ not (x == 0)
      → c + cond was 1 0 ≡ s.used + cond on 1 0 → IsValid w now (record { with_free = f; with_used = u; slots = s.slots; used = c })
  valid_written was on free used c h wrote wrote_f is_f wrote_u is_u counted =
      let at = place was h in
      let below : x < 2 ^ bits_in s.slots j = within (bits_in s.slots j) at.2 (v.clean j at.1) in record {
        short = v.short;
        few = v.few;
        free_within = free_within w at.1 v.free_within;
        used_within = used_within w at.1 v.used_within;
        clean = λ k lt. elim (cases_eq k j) [ inl e ↦ rw (e, here) below | inr ne ↦ rw (others k ne) (v.clean k lt) ];
        some_free = summary_kept w j s.with_free f free (has_free word s.slots) (has_free now s.slots) v.short wrote_f (rw here is_f)
            (λ k ne. rw (others k ne) refl) v.some_free;
        some_used = summary_kept w j s.with_used u used (has_used word) (has_used now) v.short wrote_u (rw here is_u)
            (λ k ne. rw (others k ne) refl) v.some_used;
        counted = rw (written word now s.slots i j b x on at.0 row column here others wrote)
            (omega (arith, counted_set (slots_in_words word s.slots) i was on h, v.counted));
      }

  pub valid_set : (full : ℕ) → slice_get (slots_in_words word s.slots) i ≡ Some false → WritesBit 64 (word j) x b true → full + 1 ≡ 2 ^ bits_in s.slots j
      → WritesBit 64 s.with_free f j (not (x == full)) → WritesBit 64 s.with_used u j true
      → IsValid w now (record { with_free = f; with_used = u; slots = s.slots; used = s.used + 1 })
  valid_set full h wrote is wrote_f wrote_u =
      valid_written false true _ true (s.used + 1) h wrote wrote_f (full_word x full _ is) wrote_u (bit_makes_used x b wrote.at) (omega arith)

  pub valid_unset : slice_get (slots_in_words word s.slots) i ≡ Some true → WritesBit 64 (word j) x b false
      → WritesBit 64 s.with_free f j true → WritesBit 64 s.with_used u j (not (x == 0))
      → IsValid w now (record { with_free = f; with_used = u; slots = s.slots; used = s.used - 1 })
  valid_unset h wrote wrote_f wrote_u =
      valid_written true false true _ (s.used - 1) h wrote wrote_f (bit_makes_free x _ b (place true h).2 wrote.at) wrote_u refl
      (omega (arith, v.counted, counted_some word s.slots i h))

-- ---- the first used slot, and the first free one

off_is : (s a b : ℕ) → s ≡ cond (not (a == b)) 1 0 → s ≡ 0 → a ≡ b
off_is s a b h off = elim (cases_eq a b) [ inl e ↦ e | inr ne ↦ let one : s ≡ 1 = rw (ne_eqb a b ne) at h in absurd (omega arith) ]

on_is : (s a b : ℕ) → s ≡ cond (not (a == b)) 1 0 → s ≡ 1 → a ≢ b
on_is s a b h one e = let zero : s ≡ 0 = rw (eq-eqb a b e) at h in absurd (omega arith)

module _ (w : ℕ) (word : ℕ → ℕ) (s : PageSummary) (v : IsValid w word s) where
  pub has_word : (k : ℕ) → k < s.slots → k / 64 < w
  has_word k lt = omega (arith, v.few)

  -- if a word's summary bit is clear, the word has no used slot, or no free one
  none_used : (k : ℕ) → k < s.slots → bit_at s.with_used (k / 64) ≡ 0 → bit_at (word (k / 64)) (k % 64) ≡ 0
  none_used k lt off = rw (off_is _ (word (k / 64)) 0 (v.some_used (k / 64) (has_word k lt)) off) (bit_at-zero (k % 64))

  none_free : (k : ℕ) → k < s.slots → bit_at s.with_free (k / 64) ≡ 0 → bit_at (word (k / 64)) (k % 64) ≡ 1
  none_free k lt off =
      let full : word (k / 64) + 1 ≡ 2 ^ bits_in s.slots (k / 64) =
      off_is _ (word (k / 64) + 1) (2 ^ bits_in s.slots (k / 64)) (v.some_free (k / 64) (has_word k lt)) off in
      let e : word (k / 64) ≡ 2 ^ bits_in s.slots (k / 64) - 1 = omega arith in
      rw e (bit_at_ones (bits_in s.slots (k / 64)) (k % 64) (omega arith))

  pub no_used : s.with_used ≡ 0 → position (λ u. u) (slots_in_words word s.slots) ≡ None
  no_used off = position_none (λ u. u) (slots_in_words word s.slots) true (λ k h.
      let lt : k < s.slots = omega (arith, length-slots_of word s.slots) in
      slot-at word s.slots k true lt ∙ used_from_bit word k false (none_used k lt (rw off (bit_at-zero (k / 64)))))

  pub no_free : s.with_free ≡ 0 → position (λ u. not u) (slots_in_words word s.slots) ≡ None
  no_free off = position_none (λ u. not u) (slots_in_words word s.slots) true (λ k h.
      let lt : k < s.slots = omega (arith, length-slots_of word s.slots) in
      ap not (slot-at word s.slots k true lt ∙ used_from_bit word k true (none_free k lt (rw off (bit_at-zero (k / 64))))))

  -- the word that the summary of the used slots shows, and the bit within it
  module _ (j : ℕ) (on : bit_at s.with_used j ≡ 1) where
    pub used_word : j < w
    used_word = bit_inside s.with_used w j v.used_within on

    pub some_bit : word j ≢ 0
    some_bit = on_is _ (word j) 0 (v.some_used j used_word) on

    pub used_at : (b : ℕ) → b < 64 → ((k : ℕ) → k < j → bit_at s.with_used k ≡ 0) → bit_at (word j) b ≡ 1 → ((k : ℕ) → k < b → bit_at (word j) k ≡ 0)
        → Some (64 * j + b) ≡ position (λ u. u) (slots_in_words word s.slots)
    used_at b low before here below =
        let inside : b < bits_in s.slots j = bit_inside (word j) (bits_in s.slots j) b (v.clean j used_word) here in
        let lt : 64 * j + b < s.slots = omega arith in
        let row : (64 * j + b) / 64 ≡ j = omega arith in
        let column : (64 * j + b) % 64 ≡ b = omega arith in
        sym (position_is (λ u. u) (slots_in_words word s.slots) (64 * j + b) true (omega (arith, length-slots_of word s.slots))
        (λ k h. slot-at word s.slots k true (omega arith) ∙ used_from_bit word k false (elim (cases_lt (k / 64) j) [
          | inl less ↦ none_used k (omega arith) (before (k / 64) less)
          | inr ge ↦ let same : k / 64 ≡ j = omega arith in rw same (below (k % 64) (omega arith))
        ]))
        (slot-at word s.slots (64 * j + b) true lt ∙ used_from_bit word (64 * j + b) true (rw (row, column) here)))

  -- the word that the summary of the free slots shows, and the bit within it
  module _ (j : ℕ) (on : bit_at s.with_free j ≡ 1) where
    pub free_word : j < w
    free_word = bit_inside s.with_free w j v.free_within on

    not_full : word j + 1 ≢ 2 ^ bits_in s.slots j
    not_full = on_is _ (word j + 1) (2 ^ bits_in s.slots j) (v.some_free j free_word) on

    -- the word has a bit for a slot
    pub free_start : 64 * j < s.slots
    free_start = elim (cases_eq (bits_in s.slots j) 0) [
      | inl e ↦ let none : word j < 2 ^ 0 = rw e at (v.clean j free_word) in absurd (not_full (rw e (omega arith)))
      | inr ne ↦ omega arith
    ]

    pub has_room : word j + 1 < 2 ^ 64
    has_room = omega (arith, v.clean j free_word, pow_mono {i = bits_in s.slots j} {j = 64} (omega arith), not_full)

    pub free_at : (b : ℕ) → b < 64 → ((k : ℕ) → k < j → bit_at s.with_free k ≡ 0) → bit_at (word j) b ≡ 0 → ((k : ℕ) → k < b → bit_at (word j) k ≡ 1)
        → Some (64 * j + b) ≡ position (λ u. not u) (slots_in_words word s.slots)
    free_at b low before here below =
        let full : bits_in s.slots j ≤ b → word j ≡ 2 ^ bits_in s.slots j - 1 =
        λ ge. same_from_bits_below (bits_in s.slots j) (word j) (2 ^ bits_in s.slots j - 1) (v.clean j free_word)
        (omega (arith, pow_pos (bits_in s.slots j))) (λ k h. below k (omega arith) ∙ sym (bit_at_ones (bits_in s.slots j) k h)) in
        let inside : b < bits_in s.slots j = elim (cases_lt b (bits_in s.slots j))
        [ inl lt ↦ lt | inr ge ↦ absurd (not_full (omega (arith, full ge, pow_pos (bits_in s.slots j)))) ] in
        let lt : 64 * j + b < s.slots = omega arith in
        let row : (64 * j + b) / 64 ≡ j = omega arith in
        let column : (64 * j + b) % 64 ≡ b = omega arith in
        sym (position_is (λ u. not u) (slots_in_words word s.slots) (64 * j + b) true (omega (arith, length-slots_of word s.slots))
        (λ k h. ap not (slot-at word s.slots k true (omega arith) ∙ used_from_bit word k true (elim (cases_lt (k / 64) j) [
          | inl less ↦ none_free k (omega arith) (before (k / 64) less)
          | inr ge ↦ let same : k / 64 ≡ j = omega arith in rw same (below (k % 64) (omega arith))
        ])))
        (ap not (slot-at word s.slots (64 * j + b) true lt ∙ used_from_bit word (64 * j + b) false (rw (row, column) here))))

-- the word of a slot that a page has
pub slot_word : (w : ℕ) (word : ℕ → ℕ) (s : PageSummary) → IsValid w word s → (i : ℕ) (b : Bool) → slice_get (slots_in_words word s.slots) i ≡ Some b → i / 64 < w
slot_word w word s v i b was = has_word w word s v i (slot_within word s.slots i b was)

-- ---- a word of a map is written

pub map_here : (words : List ℕ) (j x : ℕ) → length words ≡ 64 → j < 64 → word_in (set words j x) j ≡ x
map_here words j x count short = get_or-set_same words j x 0 (omega arith)

pub map_others : (words : List ℕ) (j x k : ℕ) → k ≢ j → word_in (set words j x) k ≡ word_in words k
map_others words j x k ne = get_or-set_other words j k x 0 ne

pub ruleset slot_rules = (length-slots_of, slot_within, counted_within, counted_some)
