-- How a block table is kept in memory. No public clause cites this module.
use Rattle.std.specs.Prelude.{ℕ, ◌^◌, ◌<◌, List, length}
use Rattle.block_table.specs.Table.{Table, IsBlockTable}

-- the block table with these three fields
abbrev pub table_with : ℕ → ℕ → List ℕ → Table
table_with pages page_blocks frames = record { pages = pages; page_blocks = page_blocks; frames = frames }

-- the invariant of `BlockTable`: the number of entries fits 32 bits, and they are a permutation of the blocks
pub record IsValid (pages page_blocks : ℕ) (frames : List ℕ) : Type 0 where
  pub small : length frames < 2 ^ 32
  pub table : IsBlockTable (table_with pages page_blocks frames)
