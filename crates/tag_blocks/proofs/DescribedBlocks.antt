-- Words that describe blocks (`IsDescribed`: headers, tags and zeros are right): the fields of a header word, one of them the size of the block before; these
-- blocks are read from the words, and meet the definitions of a tiling (`HaveHeaders`, `AreCleared`); other words with the same headers, tags and zeros
-- describe them too; two lists of blocks and the two joined, by the size of the last block of the first list.
use Rattle.std.proofs.Common.{◌≡◌, ℕ, zero, suc, Bool, true, false, ◌+◌, ◌*◌, ◌/◌, ◌^◌, ◌<◌, ◌≤◌, List, [], ◌∷◌, ◌++◌, Option, Some, None, length, cond, get_or}
use Rattle.std.proofs.Common.{arith, refl, sym, ap, ◌∙◌, inl, inr, subst}
use Rattle.std.specs.Prelude.{is_none}
use Rattle.std.proofs.lemmas.Bool.{lt-ltb, le-ltb, eq-eqb, ne_eqb}
use Rattle.block_model.specs.Tiling.{Block, is_free, Fill}
use Rattle.block_model.specs.Words.{block_header, HaveHeaders, AreCleared}
use Rattle.block_model.proofs.CallerLemmas.{fill_le}
use Rattle.tag_blocks.specs.Blocks.{owner_of}
use Rattle.tag_blocks.specs.Tags.{size_in, is_used_in, described_block, blocks_from, blocks_of}
use Rattle.tag_blocks.specs.Layout.{IsBlock, IsDescribed, AreDescribed}
use Rattle.tag_blocks.proofs.FillLemmas.{block_is}

-- the fields of a header
pub size_described : (before : ℕ) (b : Block) → b.size < 2 ^ 31 → size_in (block_header before b) ≡ b.size
size_described before b small = omega arith

used_at : (t : Bool) (before size : ℕ) → size < 2 ^ 31 → is_used_in (size + 2 ^ 31 * cond t 0 1 + 2 ^ 32 * before) ≡ cond t false true
used_at true before size small = ne_eqb _ 1 (λ e. absurd (omega arith))
used_at false before size small = eq-eqb _ 1 (omega arith)

pub used_described : (before : ℕ) (b : Block) → b.size < 2 ^ 31 → is_used_in (block_header before b) ≡ cond (is_free b) false true
used_described before b small = used_at (is_free b) before b.size small

before_at : (t : Bool) (before size : ℕ) → size < 2 ^ 31 → (size + 2 ^ 31 * cond t 0 1 + 2 ^ 32 * before) / 2 ^ 32 ≡ before
before_at true before size small = omega arith
before_at false before size small = omega arith

pub before_described : (before : ℕ) (b : Block) → b.size < 2 ^ 31 → block_header before b / 2 ^ 32 ≡ before
before_described before b small = before_at (is_free b) before b.size small

same_block : (b c : Block) → b.address ≡ c.address → b.size ≡ c.size → b.owner ≡ c.owner → b ≡ c
same_block b c ea es eo = λ i. record { address = ea i; size = es i; owner = eo i }

owner_described : (o : Option ℕ) (tag : ℕ) → ((h : ℕ) → o ≡ Some h → owner_of tag ≡ h) → cond (cond (is_none o) false true) (Some (owner_of tag)) None ≡ o
owner_described None tag is = refl
owner_described (Some h) tag is = ap Some (is h refl)

module _ (words : List ℕ) where
  read_one : (before : ℕ) (b : Block) → b.size < 2 ^ 31 → IsDescribed words before b
      → described_block b.address (get_or words b.address 0) (get_or words (b.address + 1) 0) ≡ b
  read_one before b small t = same_block _ b refl
      (ap size_in t.header ∙ size_described before b small)
      (ap (λ k. cond (is_used_in k) (Some (owner_of (get_or words (b.address + 1) 0))) None) t.header
      ∙ ap (λ k. cond k (Some (owner_of (get_or words (b.address + 1) 0))) None) (used_described before b small)
      ∙ owner_described b.owner (get_or words (b.address + 1) 0) t.owner)

  read_from : (bs : List Block) (most from before : ℕ) → length words < 2 ^ 31 → length words ≤ from + most → Fill bs from (length words)
      → AreDescribed words before bs
      → blocks_from words most from ≡ bs
  read_from [] zero from before small enough f t = refl
  read_from [] (suc most) from before small enough f t = rw (le-ltb from (length words) (omega arith)) refl
  read_from (b ∷ bs) zero from before small enough f t = absurd (let rest = fill_le bs (from + b.size) (length words) f.2 in let size = f.1 in omega arith)
  read_from (b ∷ bs) (suc most) from before small enough f t =
      let rest = fill_le bs (from + b.size) (length words) f.2 in
      let size = f.1 in
      let at : b.address ≡ from = f.0 in
      let little : b.size < 2 ^ 31 = omega arith in
      let one : described_block from (get_or words from 0) (get_or words (from + 1) 0) ≡ b =
      subst (λ k. described_block k (get_or words k 0) (get_or words (k + 1) 0) ≡ b) at (read_one before b little t.0) in
      let is_size : size_in (get_or words from 0) ≡ b.size = ap (λ (y : Block). y.size) one in
      rw (lt-ltb from (length words) (omega arith)) (
      ap (λ y. y ∷ blocks_from words most (from + size_in (get_or words from 0))) one
      ∙ ap (λ k. b ∷ blocks_from words most (from + k)) is_size
      ∙ ap (λ ys. b ∷ ys) (read_from bs most (from + b.size) b.size small (omega arith) f.2 t.1))

  -- the blocks that the words describe are read from them
  pub blocks_read : (bs : List Block) → length words < 2 ^ 31 → Fill bs 0 (length words) → AreDescribed words 0 bs → blocks_of words ≡ bs
  unfolding blocks_of
  blocks_read bs small f t = read_from bs (length words) 0 0 small (omega arith) f t

  -- what the words show of one of the blocks
  pub record DescribedOne (b : Block) : Type 0 where
    pub before : ℕ
    pub described : IsDescribed words before b

  pub described_one : (bs : List Block) (before : ℕ) (b : Block) → AreDescribed words before bs → IsBlock b bs → DescribedOne b
  described_one [] before b t i = absurd i
  described_one (c ∷ cs) before b t i = elim i [
    | inl is ↦ record { before = before; described = subst (λ y. IsDescribed words before y) (sym is) t.0 }
    | inr later ↦ described_one cs c.size b t.1 later
  ]

-- `words` and `words'` agree on block b, except for its link if it is free
pub record Agree (words words' : List ℕ) (b : Block) : Type 0 where
  pub header : get_or words' b.address 0 ≡ get_or words b.address 0
  pub owner : (h : ℕ) → b.owner ≡ Some h → get_or words' (b.address + 1) 0 ≡ get_or words (b.address + 1) 0
  pub rest : b.owner ≡ None → (i : ℕ) → 2 ≤ i → i < b.size → get_or words' (b.address + i) 0 ≡ get_or words (b.address + i) 0

module _ (words words' : List ℕ) where
  pub described_as : (before : ℕ) (b : Block) → Agree words words' b → IsDescribed words before b → IsDescribed words' before b
  described_as before b same t = record {
    header = same.header ∙ t.header;
    owner = λ h e. ap owner_of (same.owner h e) ∙ t.owner h e;
    cleared = λ e i low high. same.rest e i low high ∙ t.cleared e i low high;
  }

  pub described_kept : (before : ℕ) (bs : List Block) → ((b : Block) → IsBlock b bs → Agree words words' b) → AreDescribed words before bs → AreDescribed words' before bs
  described_kept before [] same t = tt
  described_kept before (b ∷ bs) same t = (described_as before b (same b (inl refl)) t.0, described_kept b.size bs (λ c i. same c (inr i)) t.1)

-- the size of the last block; `before` if there are no blocks
abbrev pub last_size : ℕ → List Block → ℕ
last_size before [] = before
last_size before (b ∷ bs) = last_size b.size bs

module _ (words : List ℕ) where
  pub described_parts : (before : ℕ) (xs ys : List Block) → AreDescribed words before (xs ++ ys) → AreDescribed words before xs × AreDescribed words (last_size before xs) ys
  described_parts before [] ys t = (tt, t)
  described_parts before (x ∷ xs) ys t = (let r = described_parts x.size xs ys t.1 in ((t.0, r.0), r.1))

  pub described_both : (before : ℕ) (xs ys : List Block) → AreDescribed words before xs → AreDescribed words (last_size before xs) ys → AreDescribed words before (xs ++ ys)
  described_both before [] ys t u = u
  described_both before (x ∷ xs) ys t u = (t.0, described_both x.size xs ys t.1 u)

  -- the headers meet the definition of a tiling
  pub headers_described : (bs : List Block) (before : ℕ) → AreDescribed words before bs → HaveHeaders words bs before
  headers_described [] before t = tt
  headers_described (b ∷ bs) before t = (t.0.header, headers_described bs b.size t.1)

  pub cleared_described : (bs : List Block) (before : ℕ) → AreDescribed words before bs → AreCleared words bs
  cleared_described bs before t a b there free i low high =
      let is = block_is bs a b there in
      let one = described_one words bs before b t is.1 in
      subst (λ k. get_or words (k + i) 0 ≡ 0) is.0 (one.described.cleared free i low high)

  -- the header of a block holds the size of the block before it
  pub header_between : (before : ℕ) (xs ys : List Block) (b : Block) → HaveHeaders words (xs ++ (b ∷ ys)) before
      → get_or words b.address 0 ≡ block_header (last_size before xs) b
  header_between before [] ys b h = h.0
  header_between before (x ∷ xs) ys b h = header_between x.size xs ys b h.1
