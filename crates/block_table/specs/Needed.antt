-- The memory that a block table asks for.
use Rattle.std.specs.Prelude.{ℕ, ◌*◌}
use Rattle.cf_base.specs.Needed.{one_block}
use Rattle.cf_base.specs.declared.needed.BytesNeeded.{BytesNeeded}

-- the memory for the physical block of each virtual block of this many pages
abbrev pub block_table_bytes : ℕ → ℕ → BytesNeeded
block_table_bytes pages page_blocks = one_block (4 * (pages * page_blocks))
