-- The block table of the non-moving manager as a list (`frames`): virtual block v, of four words, is physical block `frames[v]`. The list at the start, and
-- when it has each number once. How a free or a resize changes the list, and where in the region a block and a word then are. When pages and slots are whole
-- blocks, and what is true of objects and table (`AreFramed`).
use Rattle.std.specs.Prelude.{◌≡◌, ℕ, ◌+◌, ◌*◌, ◌/◌, ◌%◌, ◌<◌, List, Option, Some, None, length, slice_index}
use Rattle.std.specs.List.{range_with_len}
use Rattle.std.specs.List.Sorted.{IsPermutation}
use Rattle.std.specs.FinMap.{get}
use Rattle.cf_base.specs.Exchanges.{exchanged}
use Rattle.page_model.specs.Held.{Held, Placed}
use Rattle.page_model.specs.Paging.{IsPaging, Paging, slot_words}
use Rattle.page_model.specs.Arrangement.{IsSound, class_at}
use Rattle.page_model.specs.Steps.{CallResult}

-- the block table of an empty heap: the numbers below n in order
abbrev pub first_frames : ℕ → List ℕ
first_frames n = range_with_len 0 n

-- `frames` contains each number below its length once, in any order
abbrev pub IsPermuted : List ℕ → Type 0
IsPermuted frames = IsPermutation (first_frames (length frames)) frames

-- the block table after an object moved, y before and z after: the blocks of its old slot and of its new one have changed places; if y or z is none, nothing
-- changes
abbrev pub frames_moved : Paging → Option Placed → Option Placed → List ℕ → List ℕ
frames_moved p None z frames = frames
frames_moved p (Some y) None frames = frames
frames_moved p (Some y) (Some z) frames = exchanged frames (y.place / 4) (z.place / 4) (slot_words p (class_at p y) / 4)

-- the object of m that has this number, if a number is given and an object has it
abbrev pub found : Held → Option ℕ → Option Placed
found m None = None
found m (Some q) = get m q

-- the block table after a free or a resize that turned the objects `old` into `after`: it changes only if another object moved
abbrev pub frames_after : Paging → Held → CallResult → List ℕ → List ℕ
frames_after p old after frames = frames_moved p (found old after.moved) (found after.held after.moved) frames

-- the physical block of block i of the object at address a
abbrev pub block_of : List ℕ → ℕ → ℕ → ℕ
block_of frames a i = slice_index frames (a / 4 + i)

-- `physical` are the words of the region in its own order, `words` the same words as objects see them: word 4v+j of `words` is word j of physical block
-- `frames[v]`
pub record IsPhysical (frames words physical : List ℕ) : Type 0 where
  pub count : length physical ≡ 4 * length frames
  pub word : (v j : ℕ) → v < length frames → j < 4 → slice_index physical (4 * slice_index frames v + j) ≡ slice_index words (4 * v + j)

-- pages and slots are whole blocks
pub record AreBlocks (p : Paging) : Type 0 where
  pub page : p.page_words % 4 ≡ 0
  pub slot : (c : ℕ) → slot_words p c % 4 ≡ 0

-- the arrangement m is sound, in whole blocks, and `frames` contains each block of the region once
pub record AreFramed (p : Paging) (m : Held) (frames : List ℕ) : Type 0 where
  pub paged : IsPaging p
  pub blocks : AreBlocks p
  pub sound : IsSound p m
  pub count : length frames ≡ p.pages * p.page_words / 4
  pub permuted : IsPermuted frames
