-- What reading and writing the bytes of blocks of four words does. Block b is the words from 4b to 4b + 3, and has the 32 bytes from byte 32b on.
use Rattle.std.specs.Prelude.{◌≡◌, ℕ, ◌+◌, ◌*◌, ◌^◌, ◌<◌, List, slice_index}
use Rattle.region.specs.Cells.{byte_in}
use Rattle.region.specs.Words.{IsOutsideFirst}

-- the list has the 32 bytes of each of the first n of these blocks, one block after the other
abbrev pub HasBytesOf : List ℕ → List ℕ → List ℕ → ℕ → Type 0
HasBytesOf bytes words blocks n = (k j : ℕ) → k < n → j < 32 → slice_index bytes (32 * k + j) ≡ byte_in words (32 * slice_index blocks k + j)

-- each of the first n of these blocks gets the next 32 of the bytes, in words below 2^64; every other word stays
pub record WritesBlocks (old new blocks bytes : List ℕ) (n : ℕ) : Type 0 where
  pub arrived : HasBytesOf bytes new blocks n
  pub small : (k j : ℕ) → k < n → j < 4 → slice_index new (4 * slice_index blocks k + j) < 2 ^ 64
  pub others : (w : ℕ) → IsOutsideFirst blocks n w → slice_index new w ≡ slice_index old w
