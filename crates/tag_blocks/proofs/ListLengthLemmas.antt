-- For the steps of `split` and `make_free`: how many free blocks a list has after one joined it, and the steps of making that block its head.
use Rattle.std.proofs.Common.{◌≡◌, ℕ, true, ◌+◌, ◌<◌, ◌≤◌, List, [], ◌∷◌, ◌++◌, length, cond, get_or, arith, refl, sym, ap, ◌∙◌, inl, inr}
use Rattle.std.specs.Prelude.{◌&&◌, nat_eq}
use Rattle.std.proofs.lemmas.Bool.{cases_Bool, cases_eq}
use Rattle.std.proofs.lemmas.List.{get_or_default}
use Rattle.std.proofs.lemmas.List.Sums.{sum_by-append}
use Rattle.cf_base.proofs.Tests.{eq_yes, eq_no}
use Rattle.block_model.specs.Buckets.{FreeLists}
use Rattle.block_model.specs.Tiling.{Block, is_free}
use Rattle.block_model.specs.Costs.{list_length, push_steps, pushed_steps}
use Rattle.tag_blocks.specs.ListHeads.{no_block, head_of}
use Rattle.tag_blocks.specs.Layout.{Fields, IsBlock, free_block, used_block, IsValidWith}
use Rattle.tag_blocks.proofs.FillLemmas.{block_found}
use Rattle.tag_blocks.proofs.FindLemmas.{head_free, head_some}
use Rattle.tag_blocks.proofs.NeighbourLemmas.{free_owner}
use Rattle.tag_blocks.proofs.ThreadLemmas.{chosen, other}

module _ (rule : FreeLists) (list : ℕ) where
  pub length-append : (xs ys : List Block) → list_length rule (xs ++ ys) list ≡ list_length rule xs list + list_length rule ys list
  unfolding list_length
  length-append xs ys = sum_by-append (λ (b : Block). cond (is_free b && nat_eq (rule.bucket b.size) list) 1 0) xs ys

  one_used : (a s o : ℕ) → list_length rule (used_block a s o ∷ []) list ≡ 0
  unfolding list_length
  one_used a s o = refl

  one_free : (a s : ℕ) → rule.bucket s ≡ list → list_length rule (free_block a s ∷ []) list ≡ 1
  unfolding list_length
  one_free a s is = rw (eq_yes (rule.bucket s) list is) refl

  one_listed : (b : Block) → is_free b ≡ true → rule.bucket b.size ≡ list → list_length rule (b ∷ []) list ≡ 1
  unfolding list_length
  one_listed b free is = rw (free, eq_yes (rule.bucket b.size) list is) refl

  one_other : (b : Block) → (is_free b ≡ true → rule.bucket b.size ≡ list → ⊥) → list_length rule (b ∷ []) list ≡ 0
  unfolding list_length
  one_other b not = elim (cases_Bool (is_free b)) [
    | inl free ↦ rw (free, eq_no (rule.bucket b.size) list (not free)) refl
    | inr used ↦ rw used refl
  ]

  -- a used block adds nothing to the length of a list, and a free block adds one to the list in which the rule puts it
  pub length-used : (a s o : ℕ) (bs : List Block) → list_length rule (used_block a s o ∷ bs) list ≡ list_length rule bs list
  length-used a s o bs = (let e = length-append (used_block a s o ∷ []) bs in let z = one_used a s o in omega arith)

  pub length-free : (a s : ℕ) (bs : List Block) → rule.bucket s ≡ list → list_length rule (free_block a s ∷ bs) list ≡ list_length rule bs list + 1
  length-free a s bs is = (let e = length-append (free_block a s ∷ []) bs in let z = one_free a s is in omega arith)

  -- if a used block becomes free, or its last words do, one list has one more block
  pub length-freed : (pre post : List Block) (a s o : ℕ) → rule.bucket s ≡ list
      → list_length rule (pre ++ (free_block a s ∷ post)) list ≡ list_length rule (pre ++ (used_block a s o ∷ post)) list + 1
  length-freed pre post a s o is =
      let n = length-append pre (free_block a s ∷ post) in let f = length-free a s post is in
      let m = length-append pre (used_block a s o ∷ post) in let u = length-used a s o post in omega arith

  pub length-cut : (pre post : List Block) (a s o n b r : ℕ) → rule.bucket r ≡ list
      → list_length rule (pre ++ (used_block a n o ∷ free_block b r ∷ post)) list ≡ list_length rule (pre ++ (used_block a s o ∷ post)) list + 1
  length-cut pre post a s o n b r is =
      let k = length-append pre (used_block a n o ∷ free_block b r ∷ post) in let v = length-used a n o (free_block b r ∷ post) in
      let f = length-free b r post is in
      let m = length-append pre (used_block a s o ∷ post) in let u = length-used a s o post in omega arith

  none_listed : (bs : List Block) → ((b : Block) → IsBlock b bs → is_free b ≡ true → rule.bucket b.size ≡ list → ⊥) → list_length rule bs list ≡ 0
  unfolding list_length
  none_listed [] not = refl
  none_listed (b ∷ bs) not =
      let e = length-append (b ∷ []) bs in let z = one_other b (not b (inl refl)) in
      let r = none_listed bs (λ c i. not c (inr i)) in omega arith

  some_listed : (bs : List Block) (b : Block) → IsBlock b bs → is_free b ≡ true → rule.bucket b.size ≡ list → 1 ≤ list_length rule bs list
  some_listed [] b i free is = absurd i
  some_listed (c ∷ cs) b i free is = (let e = length-append (c ∷ []) cs in elim i [
    | inl here ↦ (let z = one_listed c (ap is_free (sym here) ∙ free) (ap (λ (y : Block). rule.bucket y.size) (sym here) ∙ is) in omega arith)
    | inr later ↦ (let r = some_listed cs b later free is in omega arith)
  ])

-- the steps of making a block the head of a list, by how many blocks the list then has
module _ (rule : FreeLists) (p : Fields) (bs : List Block) (lists : ℕ → List ℕ) (k : IsValidWith rule p bs lists) (list : ℕ)
    (within : list < length p.heads) where
  pub head_steps : push_steps (get_or p.heads list 0) ≡ pushed_steps (list_length rule bs list + 1)
  head_steps =
      let e : get_or p.heads list 0 ≡ head_of p.heads list = get_or_default p.heads list 0 no_block within in
      elim (cases_eq (get_or p.heads list 0) no_block) [
        | inl none ↦ (
            let z : list_length rule bs list ≡ 0 = none_listed rule list bs (λ b i free is.
            head_some rule p bs lists k b.address b (block_found bs 0 (length p.words) b k.fill i) (free_owner b free)
            (ap (head_of p.heads) is ∙ sym e ∙ none)) in
            ap (λ n. 5 + n) (chosen (get_or p.heads list 0) no_block 0 2 none) ∙ sym (chosen (list_length rule bs list + 1) 1 5 7 (omega arith)))
        | inr some ↦ (
            let f = head_free rule p bs lists k list (get_or p.heads list 0) within (λ z. some (e ∙ z)) refl in
            let one : 1 ≤ list_length rule bs list = some_listed rule list bs (free_block (get_or p.heads list 0) f.0) f.1 refl f.2 in
            ap (λ n. 5 + n) (other (get_or p.heads list 0) no_block 0 2 some) ∙ sym (other (list_length rule bs list + 1) 1 5 7 (omega arith)))
      ]
