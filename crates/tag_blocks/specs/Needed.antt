-- The memory that a region of blocks asks for.
use Rattle.std.specs.Prelude.{ℕ, ◌*◌}
use Rattle.region.specs.Needed.{region_bytes}
use Rattle.cf_base.specs.Needed.{both, one_block}
use Rattle.cf_base.specs.declared.needed.BytesNeeded.{BytesNeeded}

-- the memory for a region of this many words and for the head of each of `count` free lists, one allocation each
abbrev pub tagged_bytes : ℕ → ℕ → BytesNeeded
tagged_bytes words count = both (region_bytes words) (one_block (4 * count))
