-- For proofs about block tables: lists that contain each number below their length once. Their entries differ and are below the length; the numbers in order
-- are such a list, and a list stays one when two of its runs change places.
use Rattle.std.proofs.Common.{◌≡◌, ◌≢◌, ℕ, ◌+◌, ◌<◌, ◌≤◌, ◌⊎◌, inl, inr, List, length, slice_index, get_or, min, max}
use Rattle.std.proofs.Common.{arith, sym, subst, ◌∙◌, eqb, eq-eqb}
use Rattle.std.proofs.lemmas.Bool.{eqb-false, ne_eqb, cases_eq, cases_order}
use Rattle.std.proofs.lemmas.List.FromFn.{length-range_with_len, get_or-range_with_len}
use Rattle.std.proofs.lemmas.List.Sorted.{All-permutation, IsPermutation-refl, IsPermutation-trans}
use Rattle.std.proofs.lemmas.Map.Keys.{IsDistinct-IsPermutation, apart_from_distinct}
use Rattle.std.specs.List.{range_with_len}
use Rattle.std.specs.List.Sorted.{IsPermutation}
use Rattle.cf_base.specs.Exchanges.{exchanged}
use Rattle.cf_base.proofs.Exchanges.{length-exchanged}
use Rattle.cf_base.proofs.Members.{range_distinct}
use Rattle.cf_base.proofs.Swapping.{swapped_permutation}
use Rattle.cf_base.proofs.SwappedRuns.{swapped_is}

test_turned : (x y : ℕ) → eqb x y ≡ eqb y x
test_turned x y = elim (cases_eq x y) [
  | inl e ↦ eq-eqb x y e ∙ sym (eq-eqb y x (sym e))
  | inr ne ↦ ne_eqb x y ne ∙ sym (ne_eqb y x (λ e. ne (sym e)))
]

module _ (xs : List ℕ) (n : ℕ) (long : length xs ≡ n) (p : IsPermutation (range_with_len 0 n) xs) where
  -- each entry is below the list's length
  pub entry_below : (v : ℕ) → v < n → slice_index xs v < n
  entry_below v lt =
      let all : (k d : ℕ) → k < length (range_with_len 0 n) → get_or (range_with_len 0 n) k d < n = λ k d l.
      let count : length (range_with_len 0 n) ≡ n = length-range_with_len 0 n in
      let here : get_or (range_with_len 0 n) k d ≡ 0 + k = get_or-range_with_len 0 n k d (omega arith) in
      omega arith in
      All-permutation (λ (q : ℕ). q < n) _ _ p all v 0 (omega arith)

  -- two entries differ
  pub entries_differ : (v w : ℕ) → v < n → w < n → v ≢ w → slice_index xs v ≢ slice_index xs w
  entries_differ v w lt lt' ne =
      let distinct = IsDistinct-IsPermutation eqb test_turned _ _ p (range_distinct 0 n) in
      elim (cases_order v w) [
        | inl e ↦ absurd (ne e)
        | inr (inl l) ↦ eqb-false _ _ (apart_from_distinct eqb xs v w 0 distinct l (omega arith))
        | inr (inr l) ↦ (λ e. eqb-false _ _ (apart_from_distinct eqb xs w v 0 distinct l (omega arith)) (sym e))
      ]

  pub entry_once : (v w : ℕ) → v < n → w < n → slice_index xs v ≡ slice_index xs w → v ≡ w
  entry_once v w lt lt' e = elim (cases_eq v w) [ inl is ↦ is | inr ne ↦ absurd (entries_differ v w lt lt' ne e) ]

-- the numbers in order are a permutation
pub range_permuted : (n : ℕ) → IsPermutation (range_with_len 0 (length (range_with_len 0 n))) (range_with_len 0 n)
range_permuted n = subst (λ (k : ℕ). IsPermutation (range_with_len 0 k) (range_with_len 0 n)) (sym (length-range_with_len 0 n)) (IsPermutation-refl _)

-- exchanging two runs permutes the entries
pub exchanged_permutation : (s : List ℕ) (a b n : ℕ) → (a + n ≤ b) ⊎ (b + n ≤ a) → a + n ≤ length s → b + n ≤ length s
    → IsPermutation s (exchanged s a b n)
exchanged_permutation s a b n apart at_a at_b =
    rw (← swapped_is s a b n apart at_a at_b) (swapped_permutation s (min a b) (max a b) n (elim apart [ inl l ↦ omega arith | inr l ↦ omega arith ]))

-- a list that contains each number below its length once still does after two of its runs changed places
pub exchanged_permuted : (s : List ℕ) (a b n : ℕ) → (a + n ≤ b) ⊎ (b + n ≤ a) → a + n ≤ length s → b + n ≤ length s
    → IsPermutation (range_with_len 0 (length s)) s → IsPermutation (range_with_len 0 (length (exchanged s a b n))) (exchanged s a b n)
exchanged_permuted s a b n apart at_a at_b p =
    subst (λ (k : ℕ). IsPermutation (range_with_len 0 k) (exchanged s a b n)) (sym (length-exchanged s a b n))
    (IsPermutation-trans _ _ _ p (exchanged_permutation s a b n apart at_a at_b))
