-- The words of a region that is divided into blocks, as the blocks and the contents of their owners determine them.
use Rattle.std.specs.Prelude.{◌≡◌, ℕ, ◌+◌, ◌*◌, ◌^◌, ◌<◌, ◌≤◌, List, [], ◌∷◌, Some, None, cond, slice_index}
use Rattle.block_model.specs.Tiling.{Block, is_free, block_at}

-- Word 0 of block b: in the lower half the size of b, with bit 31 set if b is used; in the upper half `before`, the size of the block before b (0 if none).
abbrev pub block_header : ℕ → Block → ℕ
block_header before b = b.size + 2 ^ 31 * cond (is_free b) 0 1 + 2 ^ 32 * before

-- each block has its header; the block before the first one has `before` words
abbrev pub HaveHeaders : List ℕ → List Block → ℕ → Type 0
HaveHeaders words [] before = Unit {0}
HaveHeaders words (b ∷ bs) before = (slice_index words b.address ≡ block_header before b) × HaveHeaders words bs b.size

-- each free block is zeros from its word 2 on; its word 1 may be any word
abbrev pub AreCleared : List ℕ → List Block → Type 0
AreCleared words blocks = (a : ℕ) (b : Block) → block_at blocks a ≡ Some b → b.owner ≡ None → (i : ℕ) → 2 ≤ i → i < b.size → slice_index words (a + i) ≡ 0

-- each used block has the contents of its owner from its word 1 on: `content h i` is word i of the contents of owner h
abbrev pub HaveContents : (ℕ → ℕ → ℕ) → List ℕ → List Block → Type 0
HaveContents content words blocks = (a : ℕ) (b : Block) (h : ℕ) → block_at blocks a ≡ Some b → b.owner ≡ Some h → (i : ℕ) → 1 + i < b.size
    → slice_index words (a + 1 + i) ≡ content h i

-- the words of a tiling: word 0 of each block is its header; a free block is cleared; a used block has its owner's contents, from `content h 0` on
pub record AreTilingWords (content : ℕ → ℕ → ℕ) (blocks : List Block) (words : List ℕ) : Type 0 where
  pub headers : HaveHeaders words blocks 0
  pub cleared : AreCleared words blocks
  pub contents : HaveContents content words blocks
