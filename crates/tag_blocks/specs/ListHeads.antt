-- The heads of the free lists, the address of the first block of each; how two levels of bitmaps mark the lists that have one; and which is the first such
-- list, from a list on, or the last. No public clause cites this module.
use Rattle.std.specs.Prelude.{◌≡◌, ◌≢◌, ℕ, ◌+◌, ◌*◌, ◌^◌, ◌<◌, ◌≤◌, ◌==◌, not, List, length, Option, Some, None, cond, slice_index, slice_index_or}
use Rattle.std.specs.Int.{bit_at}
pub use Rattle.block_model.specs.FreeOrder.{no_block}

-- the head of list number `list`; `no_block` if the list is empty, or if there is no such list
abbrev pub head_of : List ℕ → ℕ → ℕ
head_of heads list = slice_index_or heads list no_block

-- The bitmaps mark the lists that have a head, of at most 512 lists. `lists` has one word for each group of 16 lists: bit k of word j is set if list 16 j +
-- k has a head. Bit j of `groups` is set if a list of group j has one. No bit from 16 on is set in a word of `lists`, and none from 32 on in `groups`.
pub record AreMarked (heads lists : List ℕ) (groups : ℕ) : Type 0 where
  pub few : length heads ≤ 512
  pub small : (j : ℕ) → slice_index lists j < 2 ^ 16
  pub narrow : groups < 2 ^ 32
  pub list : (j k : ℕ) → j < 32 → k < 16 → bit_at (slice_index lists j) k ≡ cond (not (head_of heads (16 * j + k) == no_block)) 1 0
  pub group : (j : ℕ) → j < 32 → bit_at groups j ≡ cond (not (slice_index lists j == 0)) 1 0

-- The bitmaps are in cells: 32 words of bits for the lists, one for each group of 16 lists, and one word of bits for the groups.
pub record AreMarkedCells (heads lists groups : List ℕ) : Type 0 where
  pub marked : AreMarked heads lists (slice_index groups 0)
  pub lists_long : length lists ≡ 32
  pub groups_long : length groups ≡ 1

-- list number `list` has a head, and from list `start` on no list before it has one
pub record IsFirst (heads : List ℕ) (start list : ℕ) : Type 0 where
  pub within : list < length heads
  pub from : start ≤ list
  pub some : head_of heads list ≢ no_block
  pub before : (k : ℕ) → start ≤ k → k < list → head_of heads k ≡ no_block

-- the result is the first list with a head from `start` on, or none if no list has one there
abbrev pub IsFirstFrom : List ℕ → ℕ → Option ℕ → Type 0
IsFirstFrom heads start (Some list) = IsFirst heads start list
IsFirstFrom heads start None = (k : ℕ) → start ≤ k → head_of heads k ≡ no_block

-- list number `list` has a head, and no list after it has one
pub record IsLastAt (heads : List ℕ) (list : ℕ) : Type 0 where
  pub within : list < length heads
  pub some : head_of heads list ≢ no_block
  pub behind : (k : ℕ) → list < k → head_of heads k ≡ no_block

-- the result is the last list with a head, or none if no list has one
abbrev pub IsLast : List ℕ → Option ℕ → Type 0
IsLast heads (Some list) = IsLastAt heads list
IsLast heads None = (k : ℕ) → head_of heads k ≡ no_block
