-- The memory that a region asks for.
use Rattle.std.specs.Prelude.{ℕ, ◌*◌}
use Rattle.cf_base.specs.Needed.{one_block}
use Rattle.cf_base.specs.declared.needed.BytesNeeded.{BytesNeeded}

-- the memory that a region of this many words asks for: one allocation, of 8 bytes for each word
abbrev pub region_bytes : ℕ → BytesNeeded
region_bytes words = one_block (8 * words)
