-- For `exchange_runs` of `Cells::exchange`, and for `Permutations`: a list is cut so that two of its runs are segments. Swapping the segments exchanges the
-- runs entry by entry (`exchanged`).
use Rattle.std.proofs.Common.{◌≡◌, ℕ, ◌+◌, ◌-◌, ◌<◌, ◌≤◌, ◌⊎◌, inl, inr, List, ◌++◌, length, drop, slice_index}
use Rattle.std.proofs.Common.{min, max, arith, ap, ◌∙◌}
use Rattle.std.proofs.lemmas.List.{length-take-le, length-drop, get_or_append_left, get_or-append_right, get_or-take, get_or-drop}
use Rattle.std.proofs.lemmas.List.Sorted.{length_permutation}
use Rattle.cf_base.specs.Exchanges.{exchanged}
use Rattle.cf_base.proofs.Exchanges.{exchanged_is}
use Rattle.cf_base.proofs.Swapping.{swapped, before, first, between, second, behind, swapped_permutation}

-- the two runs have changed places; the first begins at i
module _ (s : List ℕ) (i j n : ℕ) (low : i + n ≤ j) (within : j + n ≤ length s) where
  abbrev A : List ℕ
  A = before s i j n low

  abbrev X : List ℕ
  X = first s i j n low

  abbrev M : List ℕ
  M = between s i j n low

  abbrev Y : List ℕ
  Y = second s i j n low

  abbrev B : List ℕ
  B = behind s i j n low

  abbrev gap : ℕ
  gap = j - (i + n)

  A_long : length A ≡ i
  A_long = length-take-le i s (omega arith)

  X_long : length X ≡ n
  X_long = length-take-le n (drop i s) (simp length-drop (omega arith))

  M_long : length M ≡ gap
  M_long = length-take-le gap (drop (i + n) s) (simp length-drop (omega arith))

  Y_long : length Y ≡ n
  Y_long = length-take-le n (drop j s) (simp length-drop (omega arith))

  past_A : (w : ℕ) → i ≤ w → slice_index (swapped s i j n) w ≡ slice_index (Y ++ (M ++ (X ++ B))) (w - i)
  past_A w le = get_or-append_right A (Y ++ (M ++ (X ++ B))) i w 0 A_long le

  past_Y : (w : ℕ) → i + n ≤ w → slice_index (swapped s i j n) w ≡ slice_index (M ++ (X ++ B)) (w - (i + n))
  past_Y w le =
      past_A w (omega arith) ∙ get_or-append_right Y (M ++ (X ++ B)) n (w - i) 0 Y_long (omega arith)
      ∙ ap (λ (k : ℕ). slice_index (M ++ (X ++ B)) k) (let e : w - i - n ≡ w - (i + n) = omega arith in e)

  past_M : (w : ℕ) → j ≤ w → slice_index (swapped s i j n) w ≡ slice_index (X ++ B) (w - j)
  past_M w le =
      past_Y w (omega arith) ∙ get_or-append_right M (X ++ B) gap (w - (i + n)) 0 M_long (omega arith)
      ∙ ap (λ (k : ℕ). slice_index (X ++ B) k) (let e : w - (i + n) - gap ≡ w - j = omega arith in e)

  at_low : (k : ℕ) → k < n → slice_index (swapped s i j n) (i + k) ≡ slice_index s (j + k)
  at_low k lt =
      past_A (i + k) (omega arith) ∙ ap (λ (m : ℕ). slice_index (Y ++ (M ++ (X ++ B))) m) (let e : i + k - i ≡ k = omega arith in e)
      ∙ get_or_append_left Y (M ++ (X ++ B)) 0 k (omega (arith, Y_long)) ∙ get_or-take n (drop j s) k 0 lt ∙ get_or-drop j s k 0

  at_high : (k : ℕ) → k < n → slice_index (swapped s i j n) (j + k) ≡ slice_index s (i + k)
  at_high k lt =
      past_M (j + k) (omega arith) ∙ ap (λ (m : ℕ). slice_index (X ++ B) m) (let e : j + k - j ≡ k = omega arith in e)
      ∙ get_or_append_left X B 0 k (omega (arith, X_long)) ∙ get_or-take n (drop i s) k 0 lt ∙ get_or-drop i s k 0

  at_front : (w : ℕ) → w < i → slice_index (swapped s i j n) w ≡ slice_index s w
  at_front w lt = get_or_append_left A (Y ++ (M ++ (X ++ B))) 0 w (omega (arith, A_long)) ∙ get_or-take i s w 0 lt

  at_gap : (w : ℕ) → i + n ≤ w → w < j → slice_index (swapped s i j n) w ≡ slice_index s w
  at_gap w le lt =
      past_Y w le ∙ get_or_append_left M (X ++ B) 0 (w - (i + n)) (omega (arith, M_long))
      ∙ get_or-take gap (drop (i + n) s) (w - (i + n)) 0 (omega arith) ∙ get_or-drop (i + n) s (w - (i + n)) 0
      ∙ ap (λ (k : ℕ). slice_index s k) (let e : i + n + (w - (i + n)) ≡ w = omega arith in e)

  at_back : (w : ℕ) → j + n ≤ w → slice_index (swapped s i j n) w ≡ slice_index s w
  at_back w le =
      past_M w (omega arith) ∙ get_or-append_right X B n (w - j) 0 X_long (omega arith) ∙ get_or-drop (j + n) s (w - j - n) 0
      ∙ ap (λ (k : ℕ). slice_index s k) (let e : j + n + (w - j - n) ≡ w = omega arith in e)

  at_others : (w : ℕ) → (w < i) ⊎ (i + n ≤ w) → (w < j) ⊎ (j + n ≤ w) → slice_index (swapped s i j n) w ≡ slice_index s w
  at_others w (inl lt) q = at_front w lt
  at_others w (inr le) (inl lt) = at_gap w le lt
  at_others w (inr le) (inr le') = at_back w le'

  swapped_long : length (swapped s i j n) ≡ length s
  swapped_long = length_permutation _ _ (swapped_permutation s i j n low)

-- swapping two runs exchanges them, whichever of them is first
pub swapped_is : (s : List ℕ) (a b n : ℕ) → (a + n ≤ b) ⊎ (b + n ≤ a) → a + n ≤ length s → b + n ≤ length s
    → swapped s (min a b) (max a b) n ≡ exchanged s a b n
swapped_is s a b n (inl l) at_a at_b = (
    let e : min a b ≡ a = omega arith in let f : max a b ≡ b = omega arith in
    rw (e, f) (exchanged_is s a b n (inl l) at_a at_b (swapped s a b n) (swapped_long s a b n l at_b)
    (at_low s a b n l at_b) (at_high s a b n l at_b) (at_others s a b n l at_b)))
swapped_is s a b n (inr l) at_a at_b = (
    let e : min a b ≡ b = omega arith in let f : max a b ≡ a = omega arith in
    rw (e, f) (exchanged_is s a b n (inr l) at_a at_b (swapped s b a n) (swapped_long s b a n l at_a)
    (at_high s b a n l at_a) (at_low s b a n l at_a) (λ w p q. at_others s b a n l at_a w q p)))
