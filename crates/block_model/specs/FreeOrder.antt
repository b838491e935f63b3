-- The order in which free blocks are used: a free list for each bucket, the first and the last list with a block, the next block for a need, and the links of
-- the lists in words. Also: the lists of a region that is one free block, the lists after a carve (by a malloc) or a release (by a free), and the block that a
-- release leaves.
use Rattle.std.specs.Prelude.{◌≡◌, ℕ, ◌+◌, ◌-◌, ◌*◌, ◌^◌, ◌↔◌, List, [], ◌∷◌, Option, Some, None, length, slice_index, slice_index_or, slice_set, map, drop, nat_eq, nat_le}
use Rattle.std.specs.Prelude.{not, replicate, cond, if◌then◌else◌}
use Rattle.std.specs.List.{Contains, IsDistinct, filter}
use Rattle.cf_base.specs.Lists.{without_number}
use Rattle.block_model.specs.Buckets.{FreeLists}
use Rattle.block_model.specs.Tiling.{Block, Demand, is_free, block_at, size_at, carved_at}

-- the blocks of a region, and for each bucket its free list: the addresses of its free blocks, in the order in which they are used
pub record BlocksWithLists : Type 0 where
  pub blocks : List Block
  pub lists : List (List ℕ)

-- list k, empty if there is no such list
abbrev pub list_in : List (List ℕ) → ℕ → List ℕ
list_in lists k = slice_index_or lists k []

-- a free block begins at address a, and the rule puts it in bucket k
pub record IsFreeOf (rule : FreeLists) (blocks : List Block) (k a : ℕ) : Type 0 where
  pub block : Block
  pub there : block_at blocks a ≡ Some block
  pub free : block.owner ≡ None
  pub bucket : rule.bucket block.size ≡ k

-- the lists of s (blocks with lists) are those of its blocks: there are `count` lists, and each contains exactly the free blocks of its bucket, each once
pub record AreListsOf (rule : FreeLists) (count : ℕ) (s : BlocksWithLists) : Type 0 where
  pub as_many : length s.lists ≡ count
  pub members : (k a : ℕ) → Contains (list_in s.lists k) a ↔ IsFreeOf rule s.blocks k a
  pub once : (k : ℕ) → IsDistinct nat_eq (list_in s.lists k)

-- the first block of the first list that is not empty; none if all are empty
abbrev pub first_listed : List (List ℕ) → Option ℕ
first_listed [] = None
first_listed ([] ∷ lists) = first_listed lists
first_listed ((a ∷ xs) ∷ lists) = Some a

-- list `ys`, or list `xs` if `ys` is empty
abbrev pub later_or : List ℕ → List ℕ → List ℕ
later_or xs [] = xs
later_or xs (y ∷ ys) = y ∷ ys

-- the last list that is not empty; an empty list if all are
abbrev pub last_listed : List (List ℕ) → List ℕ
last_listed [] = []
last_listed (xs ∷ lists) = later_or xs (last_listed lists)

-- the next block for a need: the first block of the first list that is not empty; the rule says from which list on (`search`)
abbrev pub next_block : FreeLists → List (List ℕ) → ℕ → Option ℕ
next_block rule lists need = first_listed (drop (rule.search need) lists)

-- the lists without the block at address a
abbrev pub lists_without : List (List ℕ) → ℕ → List (List ℕ)
lists_without lists a = map (without_number a) lists

-- the lists after a free block of `size` words at `a` became the first of the list in which the rule puts it
abbrev pub lists_led_by : FreeLists → List (List ℕ) → ℕ → ℕ → List (List ℕ)
lists_led_by rule lists a size = slice_set lists (rule.bucket size) (a ∷ list_in lists (rule.bucket size))

-- the `count` lists of a region of `words` words that is one free block
abbrev pub first_lists : FreeLists → ℕ → ℕ → List (List ℕ)
first_lists rule count words = lists_led_by rule (replicate count []) 0 words

-- the lists of s after its block at `place` is carved for a need: it leaves its list, and the rest of it, if two words or more are left, becomes the first
-- block of its list
abbrev pub lists_carved : FreeLists → BlocksWithLists → ℕ → ℕ → List (List ℕ)
lists_carved rule s need place =
    if nat_le (need + 2) (size_at s.blocks place)
    then lists_led_by rule (lists_without s.lists place) (place + need) (size_at s.blocks place - need)
    else lists_without s.lists place

-- a malloc that follows the lists turns `old` into `new`: it carves the next block for the need of the demand d, at `place`
pub record CarvesNext (rule : FreeLists) (old : BlocksWithLists) (d : Demand) (place : ℕ) (new : BlocksWithLists) : Type 0 where
  pub next : next_block rule old.lists d.need ≡ Some place
  pub blocks : new.blocks ≡ carved_at old.blocks place d
  pub lists : new.lists ≡ lists_carved rule old d.need place

-- how many words the block has if there is one and it is free, else 0
abbrev pub free_size : Option Block → ℕ
free_size None = 0
free_size (Some b) = cond (is_free b) b.size 0

-- how many words the free block that begins at address a has, 0 if none begins there
abbrev pub free_from : List Block → ℕ → ℕ
free_from blocks a = free_size (block_at blocks a)

-- how many words the free block that ends at address a has, 0 if none ends there
abbrev pub free_up_to : List Block → ℕ → ℕ
free_up_to [] a = 0
free_up_to (b ∷ bs) a = if nat_eq (b.address + b.size) a then cond (is_free b) b.size 0 else free_up_to bs a

-- the address of the block that a release of the block at `a` leaves: that block, merged with its free neighbours
abbrev pub merged_start : List Block → ℕ → ℕ
merged_start blocks a = a - free_up_to blocks a

-- how many words the block has that a release of the block at `a` leaves
abbrev pub merged_size : List Block → ℕ → ℕ
merged_size blocks a = free_up_to blocks a + (size_at blocks a + free_from blocks (a + size_at blocks a))

-- the lists of s after a release of its block at `a`: its free neighbours leave their lists, and the merged block becomes the first of its list; a used
-- neighbour is in no list, so removing it changes nothing
abbrev pub lists_released : FreeLists → BlocksWithLists → ℕ → List (List ℕ)
lists_released rule s a =
    lists_led_by rule (lists_without (lists_without s.lists (a + size_at s.blocks a)) (merged_start s.blocks a)) (merged_start s.blocks a) (merged_size s.blocks a)

-- what a link holds if there is no next or previous block: an address that no block has
abbrev pub no_block : ℕ
no_block = 2 ^ 32 - 1

-- word 1 of a free block, its link: the address of the next block of its list in the lower half, that of the previous one in the upper half
abbrev pub link_word : ℕ → ℕ → ℕ
link_word next previous = next + 2 ^ 32 * previous

-- the address of the first block of a list, or `no_block` if the list is empty
abbrev pub first : List ℕ → ℕ
first [] = no_block
first (a ∷ xs) = a

-- in these words, word 1 of each block of the list links it with the next and the previous one in the list; the block before the first one is `previous`
abbrev pub AreThreaded : List ℕ → ℕ → List ℕ → Type 0
AreThreaded words previous [] = Unit {0}
AreThreaded words previous (a ∷ xs) = (slice_index words (a + 1) ≡ link_word (first xs) previous) × AreThreaded words a xs

-- in these words, word 1 of each block in a free list links it with the next and the previous one in that list
abbrev pub HaveLinks : List ℕ → List (List ℕ) → Type 0
HaveLinks words lists = (k : ℕ) → AreThreaded words no_block (list_in lists k)
