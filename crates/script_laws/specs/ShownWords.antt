-- The value that each word of the region must have, by the objects, their numbers and the blocks of a heap `s`. Command `p` prints it.
use Rattle.std.specs.Prelude.{◌≡◌, ℕ, ◌+◌, ◌≤◌, ◌<◌, Some, None, length}
use Rattle.run_model.specs.Terms.{family_of, get, paged, paging_in, Placed, tiled}
use Rattle.page_model.specs.Image.{IsOutsideOf, object_word, slot_for}
use Rattle.block_model.specs.Tiling.{Block, block_at}
use Rattle.block_model.specs.Words.{block_header}
use Rattle.script_laws.specs.ShownHeap.{ShownHeap}

-- `value` is word `i` of the object `x` of an id, from its first word on: its header, with its number and its length, then its bytes, eight to a word, and 0
-- past them
abbrev pub IsWordOf : ShownHeap → ℕ → Placed → ℕ → ℕ → Type 0
IsWordOf s id x i value = (number : ℕ) × (get s.numbers id ≡ Some number) × (value ≡ object_word number x.bytes i)

-- with pages, what is required of the value of a word: in an object's slot it is that word of the object; outside all slots of objects it is 0
pub record ShowsPageWord (s : ShownHeap) (word value : ℕ) : Type 0 where
  pub object : (id : ℕ) (x : Placed) (i : ℕ) → get s.heap.held id ≡ Some x → i < slot_for (paging_in s.heap) (length x.bytes) → word ≡ x.place + i
      → IsWordOf s id x i value
  pub zero : ((id : ℕ) (x : Placed) → get s.heap.held id ≡ Some x → IsOutsideOf (slot_for (paging_in s.heap)) x word) → value ≡ 0

-- with blocks, what is required of the value of a word: a block's header has its size, whether it is used, and the size of the block before it; then a used
-- block has its object's words; from word 2 on, a free block is zeros. Word 1 of a free block may be any word.
pub record ShowsBlockWord (s : ShownHeap) (word value : ℕ) : Type 0 where
  pub first : (b : Block) → block_at s.heap.tiling 0 ≡ Some b → word ≡ 0 → value ≡ block_header 0 b
  pub header : (a : ℕ) (before b : Block) → block_at s.heap.tiling a ≡ Some before → block_at s.heap.tiling (a + before.size) ≡ Some b
      → word ≡ a + before.size → value ≡ block_header before.size b
  pub object : (id : ℕ) (x : Placed) (b : Block) (i : ℕ) → get s.heap.held id ≡ Some x → block_at s.heap.tiling x.place ≡ Some b → 1 + i < b.size
      → word ≡ x.place + 1 + i → IsWordOf s id x i value
  pub zero : (a : ℕ) (b : Block) (i : ℕ) → block_at s.heap.tiling a ≡ Some b → b.owner ≡ None → 2 ≤ i → i < b.size → word ≡ a + i → value ≡ 0

-- word number `word` of the region may have the value `value`
abbrev pub ShowsWord : ShownHeap → ℕ → ℕ → Type 0
ShowsWord s word value = elim (family_of s.heap.kind) [ paged ↦ ShowsPageWord s word value | tiled ↦ ShowsBlockWord s word value ]
