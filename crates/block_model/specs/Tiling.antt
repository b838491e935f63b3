-- A tiling: used and free blocks that fill a region without a gap, no two free ones side by side; which block begins at an address; what a malloc needs, which
-- free block may serve it, and what a malloc and a free do to the blocks. Also: how many blocks are used and how many free, and the words of the used ones and
-- of the largest free one. Addresses and sizes are in words.
use Rattle.std.specs.Prelude.{◌≡◌, ◌≢◌, ℕ, Bool, false, ◌&&◌, ◌+◌, ◌-◌, ◌/◌, ◌≤◌, List, [], ◌∷◌, ◌++◌, Option, Some, None, if◌then◌else◌, is_none, is_some}
use Rattle.std.specs.Prelude.{nat_eq, nat_le, max, count_by, sum_by, cond}
use Rattle.block_model.specs.Buckets.{FreeLists}

-- a block: its address, its size in words, and the number of the object that owns it; a free block has no owner
pub record Block : Type 0 where
  pub address : ℕ
  pub size : ℕ
  pub owner : Option ℕ

-- whether block b has no owner
abbrev pub is_free : Block → Bool
is_free b = is_none b.owner

-- the blocks are contiguous from word `from` to word `to`, each with at least two words
abbrev pub Fill : List Block → ℕ → ℕ → Type 0
Fill [] from to = from ≡ to
Fill (b ∷ bs) from to = (b.address ≡ from) × (2 ≤ b.size) × Fill bs (from + b.size) to

-- whether there is a first block and it is free
abbrev pub starts_free : List Block → Bool
starts_free [] = false
starts_free (b ∷ bs) = is_free b

-- no two neighbours in the list are both free
abbrev pub AreMerged : List Block → Type 0
AreMerged [] = Unit {0}
AreMerged (b ∷ bs) = ((is_free b && starts_free bs) ≡ false) × AreMerged bs

-- a tiling: the blocks fill a region of `words` words, and no two neighbours are both free
pub record IsTiling (words : ℕ) (blocks : List Block) : Type 0 where
  pub fill : Fill blocks 0 words
  pub merged : AreMerged blocks

-- a region that is one free block
abbrev pub one_free_block : ℕ → List Block
one_free_block words = record { address = 0; size = words; owner = None } ∷ []

-- the block that begins at address a, if one does
abbrev pub block_at : List Block → ℕ → Option Block
block_at [] a = None
block_at (b ∷ bs) a = if nat_eq b.address a then Some b else block_at bs a

-- the demand of a malloc: the words that the object needs, and the number of the object, which will own the block
pub record Demand : Type 0 where
  pub need : ℕ
  pub owner : ℕ

-- the words that an object of n bytes needs: a header, a tag, and eight bytes to a word
abbrev pub block_need : ℕ → ℕ
block_need n = 2 + (n + 7) / 8

-- block b may serve the need by the free-list rule: it is free, and its list is the first one that is searched, or a later one
pub record Serves (rule : FreeLists) (need : ℕ) (b : Block) : Type 0 where
  pub free : b.owner ≡ None
  pub reached : rule.search need ≤ rule.bucket b.size

-- none of the blocks is a free block that may serve the need (`Serves`)
abbrev pub LacksBlock : FreeLists → List Block → ℕ → Type 0
LacksBlock rule blocks need = (a : ℕ) (b : Block) → block_at blocks a ≡ Some b → Serves rule need b → ⊥

-- what block b becomes if it is split for the demand d: its first words, which d needs, become used, and the rest becomes a free block; a rest of less than
-- two words stays with the used block
abbrev pub carved : Block → Demand → List Block
carved b d = if nat_le (d.need + 2) b.size
    then record { address = b.address; size = d.need; owner = Some d.owner } ∷ record
    { address = b.address + d.need; size = b.size - d.need; owner = None } ∷ []
    else (record { address = b.address; size = b.size; owner = Some d.owner } ∷ [])

-- the blocks after the one at address a is split for the demand d
abbrev pub carved_at : List Block → ℕ → Demand → List Block
carved_at [] a d = []
carved_at (b ∷ bs) a d = if nat_eq b.address a then carved b d ++ bs else b ∷ carved_at bs a d

-- a malloc turns the blocks `old` into `new`: of the free blocks that may serve the need of the demand d, one of the lowest bucket is split, the one at
-- `place`
pub record Carves (rule : FreeLists) (old : List Block) (d : Demand) (place : ℕ) (new : List Block) : Type 0 where
  pub found : Block
  pub there : block_at old place ≡ Some found
  pub serves : Serves rule d.need found
  pub least : (a : ℕ) (b : Block) → block_at old a ≡ Some b → Serves rule d.need b → rule.bucket found.size ≤ rule.bucket b.size
  pub carved : new ≡ carved_at old place d

-- block b followed by other blocks; if b and the first of the others are both free, the two become one
abbrev pub joined : Block → List Block → List Block
joined b [] = b ∷ []
joined b (c ∷ cs) = if is_free b && is_free c then record { address = b.address; size = b.size + c.size; owner = None } ∷ cs else (b ∷ c ∷ cs)

-- the blocks after each row of neighbouring free blocks became one block
abbrev pub merged : List Block → List Block
merged [] = []
merged (b ∷ bs) = joined b (merged bs)

-- the blocks after the one at address a became free, before it is joined with its neighbours
abbrev pub freed_at : List Block → ℕ → List Block
freed_at [] a = []
freed_at (b ∷ bs) a = if nat_eq b.address a then record { address = b.address; size = b.size; owner = None } ∷ bs else b ∷ freed_at bs a

-- the blocks after a free of the one at address a, which becomes free and is coalesced with its free neighbours
abbrev pub released : List Block → ℕ → List Block
released blocks a = merged (freed_at blocks a)

-- how many words all used blocks have together
unfoldable pub used_words : List Block → ℕ
used_words blocks = sum_by (λ b. cond (is_free b) 0 b.size) blocks

-- the number of used blocks
unfoldable pub used_blocks : List Block → ℕ
used_blocks blocks = count_by (λ b. is_some b.owner) blocks

-- the number of free blocks
unfoldable pub free_blocks : List Block → ℕ
free_blocks blocks = count_by is_free blocks

-- how many words the largest free block has, 0 if no block is free
abbrev pub largest_free : List Block → ℕ
largest_free [] = 0
largest_free (b ∷ bs) = max (cond (is_free b) b.size 0) (largest_free bs)

-- how many words a block has, 0 if there is no block
abbrev pub size_of : Option Block → ℕ
size_of None = 0
size_of (Some b) = b.size

-- how many words the block at address a has, 0 if no block begins there
abbrev pub size_at : List Block → ℕ → ℕ
size_at blocks a = size_of (block_at blocks a)

-- the block at `place` has the owner that the demand d names, and the words that d needs, or one more
pub record IsCarvedTo (blocks : List Block) (place : ℕ) (d : Demand) : Type 0 where
  pub block : Block
  pub there : block_at blocks place ≡ Some block
  pub owner : block.owner ≡ Some d.owner
  pub least : d.need ≤ block.size
  pub most : block.size ≤ d.need + 1

-- used blocks stay: but for the one at `place`, each used block of `old` is in `new`, and each of `new` is in `old`
pub record StaysUsed (old : List Block) (place : ℕ) (new : List Block) : Type 0 where
  pub kept : (a : ℕ) (b : Block) (h : ℕ) → a ≢ place → b.owner ≡ Some h → block_at old a ≡ Some b → block_at new a ≡ Some b
  pub no_other : (a : ℕ) (b : Block) (h : ℕ) → a ≢ place → b.owner ≡ Some h → block_at new a ≡ Some b → block_at old a ≡ Some b
