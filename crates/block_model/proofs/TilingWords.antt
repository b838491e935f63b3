-- For the law `a_tiling_has_words`: blocks that fill a region have words that represent them, made block by block: its header, then its owner's contents, or
-- zeros if it is free.
use Rattle.std.proofs.Common.{◌≡◌, ℕ, suc, ◌+◌, ◌-◌, ◌<◌, ◌≤◌, List, [], ◌∷◌, ◌++◌, Some, length, get_or, map, arith, sym, ◌∙◌, subst, inl, inr, ap, refl}
use Rattle.std.specs.List.{range_with_len}
use Rattle.std.proofs.lemmas.Bool.{cases_eq}
use Rattle.std.proofs.lemmas.Option.{same_Some as some_block}
use Rattle.std.proofs.lemmas.List.{get_or_append_left, get_or-append-add, length-append}
use Rattle.std.proofs.lemmas.List.FromFn.{length-map-range_with_len, get_or-map-range_with_len}
use Rattle.block_model.specs.Tiling.{Block, Fill, IsTiling, block_at}
use Rattle.block_model.specs.Words.{AreTilingWords, HaveHeaders, block_header}
use Rattle.block_model.specs.ReadWords.{inner_word, tiling_words}
use Rattle.cf_base.proofs.Tests.{eq_yes, eq_no}

module _ (content : ℕ → ℕ → ℕ) where
  abbrev own : ℕ → Block → List ℕ
  own before b = block_header before b ∷ map (inner_word b.owner content) (range_with_len 0 (b.size - 1))

  own_long : (before : ℕ) (b : Block) → 2 ≤ b.size → length (own before b) ≡ b.size
  own_long before b some = (let e = length-map-range_with_len (inner_word b.owner content) 0 (b.size - 1) in omega arith)

  long : (bs : List Block) (from to before : ℕ) → Fill bs from to → from + length (tiling_words content bs before) ≡ to
  long [] from to before f = (let e = f in omega arith)
  long (b ∷ bs) from to before f =
      let r = long bs (from + b.size) to b.size f.2 in
      let o = own_long before b f.1 in
      let a = length-append (own before b) (tiling_words content bs b.size) in
      omega arith

  -- the words from `from` on are those of the list xs
  abbrev Reads : List ℕ → ℕ → List ℕ → Type 0
  Reads words from xs = (i : ℕ) → i < length xs → get_or words (from + i) 0 ≡ get_or xs i 0

  module _ (words : List ℕ) (before from to : ℕ) (b : Block) (bs : List Block) (some : 2 ≤ b.size)
      (r : Reads words from (tiling_words content (b ∷ bs) before)) where
    all_long : length (tiling_words content (b ∷ bs) before) ≡ b.size + length (tiling_words content bs b.size)
    all_long = (let o = own_long before b some in let a = length-append (own before b) (tiling_words content bs b.size) in omega arith)

    head_read : get_or words from 0 ≡ block_header before b
    head_read = (let l = all_long in let e : from + 0 ≡ from = omega arith in ap (λ w. get_or words w 0) (sym e) ∙ r 0 (omega arith))

    body_read : (i : ℕ) → 1 + i < b.size → get_or words (from + 1 + i) 0 ≡ inner_word b.owner content i
    body_read i lt =
        let l = all_long in
        let o = own_long before b some in
        let e : from + suc i ≡ from + 1 + i = omega arith in
        ap (λ w. get_or words w 0) (sym e) ∙ r (suc i) (omega arith)
        ∙ get_or_append_left (own before b) (tiling_words content bs b.size) 0 (suc i) (omega arith)
        ∙ get_or-map-range_with_len (inner_word b.owner content) 0 (b.size - 1) i i 0 (omega arith) (omega arith)

    tail_read : Reads words (from + b.size) (tiling_words content bs b.size)
    tail_read i lt =
        let l = all_long in
        let o = own_long before b some in
        let e : from + (b.size + i) ≡ from + b.size + i = omega arith in
        ap (λ w. get_or words w 0) (sym e) ∙ r (b.size + i) (omega arith)
        ∙ ap (λ k. get_or (own before b ++ tiling_words content bs b.size) (k + i) 0) (sym o)
        ∙ get_or-append-add (own before b) (tiling_words content bs b.size) i 0

  headed : (words : List ℕ) (bs : List Block) (from to before : ℕ) → Fill bs from to → Reads words from (tiling_words content bs before)
      → HaveHeaders words bs before
  headed words [] from to before f r = tt
  headed words (b ∷ bs) from to before f r = (
    subst (λ a. get_or words a 0 ≡ block_header before b) (sym f.0) (head_read words before from to b bs f.1 r),
    headed words bs (from + b.size) to b.size f.2 (tail_read words before from to b bs f.1 r),
  )

  -- the words after the header of each block
  inner : (words : List ℕ) (bs : List Block) (from to before : ℕ) → Fill bs from to → Reads words from (tiling_words content bs before)
      → (a : ℕ) (c : Block) → block_at bs a ≡ Some c → (i : ℕ) → 1 + i < c.size → get_or words (a + 1 + i) 0 ≡ inner_word c.owner content i
  inner words [] from to before f r a c there i lt = cc
  inner words (b ∷ bs) from to before f r a c there i lt = elim (cases_eq b.address a) [
    | inl is ↦ (
        let there' : Some b ≡ Some c = rw (eq_yes b.address a is) at there in
        let same = some_block b c there' in
        let at : from ≡ a = sym f.0 ∙ is in
        let small : 1 + i < b.size = rw same lt in
        subst (λ x. get_or words (x + 1 + i) 0 ≡ inner_word c.owner content i) at
        (body_read words before from to b bs f.1 r i small ∙ ap (λ (x : Block). inner_word x.owner content i) same))
    | inr other ↦ (
        let there' : block_at bs a ≡ Some c = rw (eq_no b.address a other) at there in
        inner words bs (from + b.size) to b.size f.2 (tail_read words before from to b bs f.1 r) a c there' i lt)
  ]

  pub made : (count : ℕ) (bs : List Block) → IsTiling count bs
      → AreTilingWords content bs (tiling_words content bs 0) × (length (tiling_words content bs 0) ≡ count)
  made count bs t =
      let r : Reads (tiling_words content bs 0) 0 (tiling_words content bs 0) = λ i lt. (let e : 0 + i ≡ i = omega arith in rw e refl) in
      let n = inner (tiling_words content bs 0) bs 0 count 0 t.fill r in (
        record {
          headers = headed (tiling_words content bs 0) bs 0 count 0 t.fill r;
          cleared = λ a b there free i low high. (let e : a + 1 + (i - 1) ≡ a + i = omega arith in ap (λ w. get_or (tiling_words content bs 0) w 0) (sym e)
              ∙ n a b there (i - 1) (omega arith) ∙ ap (λ o. inner_word o content (i - 1)) free);
          contents = λ a b h there used i lt. n a b there i lt ∙ ap (λ o. inner_word o content i) used;
        },
        (let l = long bs 0 count 0 t.fill in omega arith),
      )
