-- The blocks that the words of a region show (`read_blocks`), by headers and tags, and the words that represent a list of blocks with their owners' contents.
use Rattle.std.specs.Prelude.{◌≡◌, ℕ, zero, suc, ◌+◌, ◌-◌, ◌/◌, ◌%◌, ◌^◌, List, [], ◌∷◌, ◌++◌, Option, Some, None, if◌then◌else◌, map, nat_eq, nat_lt}
use Rattle.std.specs.Prelude.{slice_index}
use Rattle.std.specs.List.{range_with_len}
use Rattle.block_model.specs.Tiling.{Block, block_at}
use Rattle.block_model.specs.Words.{block_header}

-- word 1 of each used block, its tag, has its owner's number in its lower half
abbrev pub HaveTags : List ℕ → List Block → Type 0
HaveTags words blocks = (a : ℕ) (b : Block) (h : ℕ) → block_at blocks a ≡ Some b → b.owner ≡ Some h → slice_index words (a + 1) % 2 ^ 32 ≡ h

-- the owner of a block, from its header and the word after it (`tag`); none if the header shows a free block
abbrev pub read_owner : ℕ → ℕ → Option ℕ
read_owner header tag = if nat_eq (header / 2 ^ 31 % 2) 1 then Some (tag % 2 ^ 32) else None

-- the block at address a, as its first two words show it
abbrev pub read_block : List ℕ → ℕ → Block
read_block words a = record { address = a; size = slice_index words a % 2 ^ 31; owner = read_owner (slice_index words a) (slice_index words (a + 1)) }

-- the blocks from word `a` to word `to`, as the words show them; at most `most` blocks, which makes the recursion end
abbrev pub read_blocks : ℕ → List ℕ → ℕ → ℕ → List Block
read_blocks zero words a to = []
read_blocks (suc most) words a to = if nat_lt a to then read_block words a ∷ read_blocks most words (a + slice_index words a % 2 ^ 31) to else []

-- word i after the header of a block: `content h i` if its owner is h, or 0 in a free block
abbrev pub inner_word : Option ℕ → (ℕ → ℕ → ℕ) → ℕ → ℕ
inner_word None content i = 0
inner_word (Some h) content i = content h i

-- the words that represent these blocks, one after the other, with the contents `content` of their owners; the block before the first one has `before` words
abbrev pub tiling_words : (ℕ → ℕ → ℕ) → List Block → ℕ → List ℕ
tiling_words content [] before = []
tiling_words content (b ∷ bs) before = (block_header before b ∷ map (inner_word b.owner content) (range_with_len 0 (b.size - 1)))
    ++ tiling_words content bs b.size
