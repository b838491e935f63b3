-- For the law `a_block_gets_other_contents`: after one used block gets other contents and every word outside of it stays, the words are those of the same
-- blocks, with these contents. For other proofs: two blocks share no word; an address finds the same block if one more is put before the list; and blocks keep
-- their headers if word 0 of each stays.
use Rattle.std.proofs.Common.{◌≡◌, ◌≢◌, ℕ, ◌+◌, ◌-◌, ◌<◌, ◌≤◌, List, [], ◌∷◌, Some, None, length, get_or, map, arith, sym, ◌∙◌, inl, inr, ap, refl}
use Rattle.std.specs.Prelude.{◌⊎◌, ◌&&◌, cond, nat_le, nat_lt}
use Rattle.std.specs.List.{range_with_len}
use Rattle.std.proofs.lemmas.Bool.{cases_eq, cases_lt}
use Rattle.std.proofs.lemmas.Option.{same_Some as same_block, same_Some as same_number}
use Rattle.std.proofs.lemmas.List.FromFn.{length-map-range_with_len, get_or-map-range_with_len}
use Rattle.std.proofs.lemmas.List.{get_or_past}
use Rattle.block_model.specs.Tiling.{Block, Fill, IsTiling, block_at}
use Rattle.block_model.specs.Words.{AreTilingWords, HaveHeaders}
use Rattle.block_model.proofs.Others.{IsBlockWithin, lies}
use Rattle.cf_base.proofs.Tests.{eq_yes, eq_no, le_yes, le_no, lt_yes, lt_no}

-- the block at an address stays the same if one more block is put before the list
pub behind : (x : Block) (xs : List Block) (from to a : ℕ) (b : Block) → Fill (x ∷ xs) from to → block_at xs a ≡ Some b → block_at (x ∷ xs) a ≡ Some b
behind x xs from to a b f there =
    let l = lies xs (from + x.size) to a b f.2 there in
    let begins = f.0 in
    let some = f.1 in
    let low = l.low in
    rw (eq_no x.address a (λ is. omega arith)) there

-- blocks at two addresses share no word
pub apart : (bs : List Block) (from to a c : ℕ) (b d : Block) → Fill bs from to → block_at bs a ≡ Some b → block_at bs c ≡ Some d → a ≢ c
    → (a + b.size ≤ c) ⊎ (c + d.size ≤ a)
apart [] from to a c b d f x y ne = cc
apart (z ∷ zs) from to a c b d f x y ne = elim (cases_eq z.address a) [
  | inl is ↦ (
      let x' : Some z ≡ Some b = rw (eq_yes z.address a is) at x in
      let same : z ≡ b = cc in
      let size : z.size ≡ b.size = ap (λ (w : Block). w.size) same in
      let y' : block_at zs c ≡ Some d = rw (eq_no z.address c (λ e. ne (sym is ∙ e))) at y in
      let l = lies zs (from + z.size) to c d f.2 y' in
      let begins = f.0 in
      let low = l.low in
      inl (omega arith))
  | inr other ↦ (
      let x' : block_at zs a ≡ Some b = rw (eq_no z.address a other) at x in
      elim (cases_eq z.address c) [
        | inl is ↦ (
            let y' : Some z ≡ Some d = rw (eq_yes z.address c is) at y in
            let same : z ≡ d = cc in
            let size : z.size ≡ d.size = ap (λ (w : Block). w.size) same in
            let l = lies zs (from + z.size) to a b f.2 x' in
            let begins = f.0 in
            let low = l.low in
            inr (omega arith))
        | inr more ↦ apart zs (from + z.size) to a c b d f.2 x' (rw (eq_no z.address c more) at y) ne
      ])
]

-- if word 0 of every block stays, the blocks still have their headers
pub headers_stay : (old new : List ℕ) (bs : List Block) (from to before : ℕ) → Fill bs from to
    → ((a : ℕ) (b : Block) → block_at bs a ≡ Some b → get_or new a 0 ≡ get_or old a 0) → HaveHeaders old bs before → HaveHeaders new bs before
headers_stay old new [] from to before f same heads = tt
headers_stay old new (b ∷ bs) from to before f same heads = (
  same b.address b (rw (eq_yes b.address b.address refl) refl) ∙ heads.0,
  headers_stay old new bs (from + b.size) to b.size f.2 (λ a c there. same a c (behind b bs from to a c f there)) heads.1,
)

-- the list `words`, with the n words from `from` on replaced by `f 0`, `f 1` and so on
abbrev pub replaced : (ℕ → ℕ) → ℕ → ℕ → List ℕ → List ℕ
replaced f from n words = map (λ w. cond (nat_le from w && nat_lt w (from + n)) (f (w - from)) (get_or words w 0)) (range_with_len 0 (length words))

module _ (f : ℕ → ℕ) (from n : ℕ) (words : List ℕ) where
  pub length-replaced : length (replaced f from n words) ≡ length words
  length-replaced = length-map-range_with_len _ 0 (length words)

  pub replaced_outside : (w : ℕ) → ((w < from) ⊎ (from + n ≤ w)) → get_or (replaced f from n words) w 0 ≡ get_or words w 0
  replaced_outside w out = elim (cases_lt w (length words)) [
    | inr past ↦ (let l = length-replaced in get_or_past (replaced f from n words) w 0 (omega arith) ∙ sym (get_or_past words w 0 past))
    | inl lt ↦ get_or-map-range_with_len _ 0 (length words) w w 0 lt (omega arith) ∙ test out
  ]
    where
      test : ((w < from) ⊎ (from + n ≤ w)) → cond (nat_le from w && nat_lt w (from + n)) (f (w - from)) (get_or words w 0) ≡ get_or words w 0
      test (inl low) = rw (le_no from w low) refl
      test (inr high) = rw (le_yes from w (omega arith), lt_no w (from + n) high) refl

  pub replaced_inside : (i : ℕ) → i < n → from + n ≤ length words → get_or (replaced f from n words) (from + i) 0 ≡ f i
  replaced_inside i lt fits =
      let e : from + i - from ≡ i = omega arith in
      get_or-map-range_with_len _ 0 (length words) (from + i) (from + i) 0 (omega arith) (omega arith)
      ∙ rw (le_yes from (from + i) (omega arith), lt_yes (from + i) (from + n) (omega arith), e) refl

-- a used block of a tiling gets other contents
module _ (content now : ℕ → ℕ → ℕ) (count : ℕ) (bs : List Block) (words : List ℕ) (place : ℕ) (b : Block) (h : ℕ) (t : IsTiling count bs)
    (are : AreTilingWords content bs words) (long : length words ≡ count)
    (there : block_at bs place ≡ Some b) (used : b.owner ≡ Some h)
    (others : (a : ℕ) (c : Block) (q : ℕ) → a ≢ place → block_at bs a ≡ Some c → c.owner ≡ Some q → (i : ℕ) → now q i ≡ content q i) where
  abbrev pub refilled : List ℕ
  refilled = replaced (now h) (place + 1) (b.size - 1) words

  mine : IsBlockWithin b place 0 count
  mine = lies bs 0 count place b t.fill there

  -- the words of another block stay
  outside : (a : ℕ) (c : Block) (w : ℕ) → block_at bs a ≡ Some c → a ≢ place → a ≤ w → w < a + c.size → get_or refilled w 0 ≡ get_or words w 0
  outside a c w at ne low high =
      let size = mine.size in
      replaced_outside (now h) (place + 1) (b.size - 1) words w (elim (apart bs 0 count a place c b t.fill at there ne) [
        | inl before ↦ inl (omega arith)
        | inr after ↦ inr (omega arith)
      ])

  header_stays : (a : ℕ) (c : Block) → block_at bs a ≡ Some c → get_or refilled a 0 ≡ get_or words a 0
  header_stays a c at = elim (cases_eq a place) [
    | inl is ↦ replaced_outside (now h) (place + 1) (b.size - 1) words a (inl (omega arith))
    | inr ne ↦ (let l = lies bs 0 count a c t.fill at in let size = l.size in outside a c a at ne (omega arith) (omega arith))
  ]

  pub refilled_long : length refilled ≡ count
  refilled_long = length-replaced (now h) (place + 1) (b.size - 1) words ∙ long

  pub refilled_outside : (w : ℕ) → ((w < place) ⊎ (place + b.size ≤ w)) → get_or refilled w 0 ≡ get_or words w 0
  refilled_outside w out = (let size = mine.size in
      replaced_outside (now h) (place + 1) (b.size - 1) words w (elim out [ inl low ↦ inl (omega arith) | inr high ↦ inr (omega arith) ]))

  pub refilled_words : AreTilingWords now bs refilled
  refilled_words = record {
    headers = headers_stay words refilled bs 0 count 0 t.fill header_stays are.headers;
    cleared = λ a c at free i low high. (
        let ne : a ≢ place = λ is. (let same : Some c ≡ Some b = sym at ∙ ap (block_at bs) is
        ∙ there in let o : c.owner ≡ b.owner = ap (λ (x : Block). x.owner) (same_block c b same) in let z : None ≡ Some h = sym free ∙ o ∙ used in cc) in
        outside a c (a + i) at ne (omega arith) (omega arith) ∙ are.cleared a c at free i low high);
    contents = λ a c q at by i lt. elim (cases_eq a place) [
      | inl is ↦ (
          let same = same_block c b (sym at ∙ ap (block_at bs) is ∙ there) in
          let who : h ≡ q = same_number h q (sym used ∙ ap (λ (x : Block). x.owner) (sym same) ∙ by) in
          let size : c.size ≡ b.size = ap (λ (x : Block). x.size) same in
          let high = mine.high in
          let e : a + 1 + i ≡ place + 1 + i = omega arith in
          ap (λ w. get_or refilled w 0) e ∙ replaced_inside (now h) (place + 1) (b.size - 1) words i (omega arith) (omega arith) ∙ ap (λ k. now k i) who)
      | inr ne ↦ outside a c (a + 1 + i) at ne (omega arith) (omega arith) ∙ are.contents a c q at by i lt ∙ sym (others a c q ne at by i)
    ];
  }
