-- For `classes_by_need` and `class_of`: the least size, among rising ones, that holds a need (the words of an object with its header); a need above a page has
-- none.
use Rattle.std.proofs.Common.{◌≡◌, ℕ, ◌+◌, ◌-◌, ◌<◌, ◌≤◌, inl, inr, List, [], ◌∷◌, length, get_or, Some, None, arith, sym, ◌∙◌, ap}
use Rattle.std.specs.Prelude.{◌++◌, nat_le}
use Rattle.std.specs.List.{position}
use Rattle.std.proofs.lemmas.Bool.{cases_lt, lt-leb, le-leb}
use Rattle.std.proofs.lemmas.List.{get_or_append_left, get_or-append_right}
use Rattle.cf_base.specs.Classes.{need, class_of}
use Rattle.cf_base.specs.Rising.{AreSizes}
use Rattle.cf_base.proofs.Rising.{size_within}
use Rattle.cf_base.proofs.Positions.{position_is, position_none}

-- the first size that is large enough, if all sizes before it are too small
pub least_size : (sizes : List ℕ) (n c : ℕ) → c < length sizes → ((k : ℕ) → k < c → get_or sizes k 0 < n) → n ≤ get_or sizes c 0
    → Some c ≡ position (λ s. nat_le n s) sizes
least_size sizes n c short below large =
    sym (position_is (λ s. nat_le n s) sizes c 0 short (λ k h. lt-leb n (get_or sizes k 0) (below k h)) (le-leb n (get_or sizes c 0) large))

-- size c is the first that is at least n
pub record IsLeast (sizes : List ℕ) (n c : ℕ) : Type 0 where
  pub inside : c < length sizes
  pub below : (k : ℕ) → k < c → get_or sizes k 0 < n
  pub large : n ≤ get_or sizes c 0

pub next_size : (page_words : ℕ) (sizes : List ℕ) (n c : ℕ) → AreSizes page_words sizes → n ≤ page_words → c < length sizes
    → ((k : ℕ) → k < c → get_or sizes k 0 < n) → n ≤ get_or sizes c 0 + 1 → get_or sizes c 0 < n → IsLeast sizes n (c + 1)
next_size page_words sizes n c are within inside below near small =
    let more : c + 1 < length sizes = elim (cases_lt (c + 1) (length sizes)) [
      | inl lt ↦ lt
      | inr ge ↦ (
          let last = are.last in
          let at : get_or sizes c 0 ≡ page_words = ap (λ (k : ℕ). get_or sizes k 0) (omega arith) ∙ last in
          absurd (omega arith))
    ] in record {
      inside = more;
      below = λ k lt. elim (cases_lt k c) [
        | inl before ↦ below k before
        | inr from ↦ (let e : get_or sizes k 0 ≡ get_or sizes c 0 = ap (λ (j : ℕ). get_or sizes j 0) (omega arith) in omega arith)
      ];
      large = (let rise = are.rising c (c + 1) (omega arith) more in omega arith);
    }

-- one more need gets its class
pub shown_more : (sizes by_need : List ℕ) (n c : ℕ) → length by_need ≡ n → ((k : ℕ) → k < n → Some (get_or by_need k 0) ≡ position (λ s. nat_le k s) sizes)
    → IsLeast sizes n c → (k : ℕ) → k < n + 1 → Some (get_or (by_need ++ c ∷ []) k 0) ≡ position (λ s. nat_le k s) sizes
shown_more sizes by_need n c long shown least k lt = elim (cases_lt k n) [
  | inl before ↦ ap Some (get_or_append_left by_need (c ∷ []) 0 k (omega arith)) ∙ shown k before
  | inr from ↦ (
      let is : k ≡ n = omega arith in
      let here : get_or (by_need ++ c ∷ []) n 0 ≡ c =
      get_or-append_right by_need (c ∷ []) n n 0 long (omega arith) ∙ ap (λ (j : ℕ). get_or (c ∷ []) j 0) (let z : n - n ≡ 0 = omega arith in z) in
      rw is (ap Some here ∙ least_size sizes n c least.inside least.below least.large))
]

pub class_of-none : (page_words : ℕ) (sizes : List ℕ) (bytes : ℕ) → AreSizes page_words sizes → page_words < need bytes → None ≡ class_of sizes bytes
class_of-none p sizes bytes are large =
    sym (position_none (λ s. nat_le (need bytes) s) sizes 0 (λ k h. lt-leb (need bytes) (get_or sizes k 0) (omega (arith, size_within p sizes k are h))))
