-- For the count of used words that heaps with blocks keep: a malloc adds the words of its block to the sum over all used blocks, and a free subtracts them; the
-- sum is at most the words of the region, and 0 if the region is one free block.
use Rattle.std.proofs.Common.{◌≡◌, ◌≢◌, ℕ, Bool, true, false, ◌+◌, ◌-◌, ◌≤◌, List, [], ◌∷◌, ◌++◌, Some, None, arith, ◌∙◌, inl, inr, ap, refl, subst}
use Rattle.std.specs.Prelude.{◌&&◌, cond, is_none}
use Rattle.std.proofs.lemmas.Bool.{cases_lt, cases_eq}
use Rattle.std.proofs.lemmas.List.Sums.{sum_by-cons}
use Rattle.std.proofs.lemmas.Option.{same_Some as some_injective}
use Rattle.block_model.specs.Tiling.{Block, is_free, Fill, block_at, Demand, carved, carved_at, joined, merged, freed_at, released, size_at, used_words}
use Rattle.cf_base.proofs.Tests.{eq_yes, eq_no, le_yes, le_no}

used_none : used_words [] ≡ 0
unfolding used_words
used_none = refl

used_first : (b : Block) (bs : List Block) → used_words (b ∷ bs) ≡ cond (is_free b) 0 b.size + used_words bs
unfolding used_words
used_first b bs = sum_by-cons (λ b. cond (is_free b) 0 b.size) b bs

used_size : (b : Block) (h : ℕ) → b.owner ≡ Some h → cond (is_free b) 0 b.size ≡ b.size
used_size b h used = ap (λ o. cond (is_none o) 0 b.size) used

free_size : (b : Block) → b.owner ≡ None → cond (is_free b) 0 b.size ≡ 0
free_size b free = ap (λ o. cond (is_none o) 0 b.size) free

carved_uses : (b : Block) (d : Demand) (bs : List Block) → used_words (carved b d ++ bs) ≡ size_at (carved b d ++ bs) b.address + used_words bs
carved_uses b d bs = elim (cases_lt b.size (d.need + 2)) [
  | inl small ↦ rw (le_no (d.need + 2) b.size small, eq_yes b.address b.address refl)
      (used_first (record { address = b.address; size = b.size; owner = Some d.owner }) bs)
  | inr large ↦ rw (le_yes (d.need + 2) b.size large, eq_yes b.address b.address refl) (
      let rest : Block = record { address = b.address + d.need; size = b.size - d.need; owner = None } in
      let f = used_first (record { address = b.address; size = d.need; owner = Some d.owner }) (rest ∷ bs) in
      let g = used_first rest bs in
      omega arith)
]

there_first : (x b : Block) (xs : List Block) (a : ℕ) → x.address ≡ a → block_at (x ∷ xs) a ≡ Some b → x ≡ b
there_first x b xs a is there = (let e : Some x ≡ Some b = rw (eq_yes x.address a is) at there in some_injective x b e)

there_after : (x b : Block) (xs : List Block) (a : ℕ) → x.address ≢ a → block_at (x ∷ xs) a ≡ Some b → block_at xs a ≡ Some b
there_after x b xs a other there = rw (eq_no x.address a other) at there

-- a malloc adds the words of its block
pub used_after_malloc : (bs : List Block) (place : ℕ) (d : Demand) (found : Block) → block_at bs place ≡ Some found → found.owner ≡ None
    → used_words (carved_at bs place d) ≡ used_words bs + size_at (carved_at bs place d) place
used_after_malloc [] place d found there free = cc
used_after_malloc (x ∷ xs) place d found there free = elim (cases_eq x.address place) [
  | inl is ↦ (
      let none : x.owner ≡ None = ap (λ (b : Block). b.owner) (there_first x found xs place is there) ∙ free in
      let c : used_words (carved x d ++ xs) ≡ size_at (carved x d ++ xs) place + used_words xs =
      subst (λ a. used_words (carved x d ++ xs) ≡ size_at (carved x d ++ xs) a + used_words xs) is (carved_uses x d xs) in
      let f = used_first x xs in
      let z = free_size x none in
      rw (eq_yes x.address place is) (omega arith))
  | inr other ↦ (
      let r = used_after_malloc xs place d found (there_after x found xs place other there) free in
      let f = used_first x xs in
      let g = used_first x (carved_at xs place d) in
      let s : size_at (x ∷ carved_at xs place d) place ≡ size_at (carved_at xs place d) place = rw (eq_no x.address place other) refl in
      rw (eq_no x.address place other) (omega arith))
]

freed_uses : (bs : List Block) (place : ℕ) (b : Block) (h : ℕ) → block_at bs place ≡ Some b → b.owner ≡ Some h
    → used_words (freed_at bs place) + size_at bs place ≡ used_words bs
freed_uses [] place b h there used = cc
freed_uses (x ∷ xs) place b h there used = elim (cases_eq x.address place) [
  | inl is ↦ (
      let some : x.owner ≡ Some h = ap (λ (y : Block). y.owner) (there_first x b xs place is there) ∙ used in
      let f = used_first x xs in
      let g = used_first (record { address = x.address; size = x.size; owner = None }) xs in
      let s = used_size x h some in
      rw (eq_yes x.address place is) (omega arith))
  | inr other ↦ (
      let r = freed_uses xs place b h (there_after x b xs place other there) used in
      let f = used_first x xs in
      let g = used_first x (freed_at xs place) in
      rw (eq_no x.address place other) (omega arith))
]

and_both : (s t : Bool) → (s && t) ≡ true → (s ≡ true) × (t ≡ true)
and_both true t e = (refl, e)
and_both false t e = cc

joined_uses : (b : Block) (cs : List Block) → used_words (joined b cs) ≡ used_words (b ∷ cs)
joined_uses b [] = refl
joined_uses b (c ∷ cs) = by_cases (is_free b && is_free c) refl
  where
    by_cases : (t : Bool) → (is_free b && is_free c) ≡ t → used_words (joined b (c ∷ cs)) ≡ used_words (b ∷ c ∷ cs)
    by_cases false e = rw e refl
    by_cases true e =
        let free = and_both (is_free b) (is_free c) e in
        let one = used_first (record { address = b.address; size = b.size + c.size; owner = None }) cs in
        let f = used_first b (c ∷ cs) in
        let g = used_first c cs in
        let s : cond (is_free b) 0 b.size ≡ 0 = ap (λ t. cond t 0 b.size) free.0 in
        let t : cond (is_free c) 0 c.size ≡ 0 = ap (λ t. cond t 0 c.size) free.1 in
        rw e (omega arith)

merged_uses : (bs : List Block) → used_words (merged bs) ≡ used_words bs
merged_uses [] = refl
merged_uses (b ∷ bs) =
    let f = used_first b (merged bs) in
    let g = used_first b bs in
    let r = merged_uses bs in
    let j = joined_uses b (merged bs) in
    omega arith

-- a free subtracts the words of its block
pub used_after_free : (bs : List Block) (place : ℕ) (b : Block) (h : ℕ) → block_at bs place ≡ Some b → b.owner ≡ Some h
    → used_words (released bs place) + size_at bs place ≡ used_words bs
used_after_free bs place b h there used =
    let m = merged_uses (freed_at bs place) in
    let f = freed_uses bs place b h there used in
    omega arith

-- the words of the used blocks are at most all words
pub used_within : (bs : List Block) (from to : ℕ) → Fill bs from to → from + used_words bs ≤ to
used_within [] from to f = (let z = used_none in let e = f in omega arith)
used_within (b ∷ bs) from to f =
    let r = used_within bs (from + b.size) to f.2 in
    let g = used_first b bs in
    let most = at_most (is_free b) b.size in
    omega arith
  where
    at_most : (t : Bool) (n : ℕ) → cond t 0 n ≤ n
    at_most true n = omega arith
    at_most false n = omega arith

-- no word is used if the region is one free block
pub used_in_one_free : (n : ℕ) → used_words (record { address = 0; size = n; owner = None } ∷ []) ≡ 0
used_in_one_free n = (let f = used_first (record { address = 0; size = n; owner = None }) [] in let z = used_none in omega arith)
