-- The memory that the maps of all pages ask for.
use Rattle.std.specs.Prelude.{ℕ, ◌*◌}
use Rattle.std.specs.Int.{div_ceil}
use Rattle.cf_base.specs.Needed.{both, one_block}
use Rattle.cf_base.specs.declared.needed.BytesNeeded.{BytesNeeded}

-- the memory for the maps of this many pages with up to `most` slots: the 24 bytes of a page's summary, and a word for
-- each 64 slots
abbrev pub map_bytes : ℕ → ℕ → BytesNeeded
map_bytes pages most = both (one_block (24 * pages)) (one_block (8 * (pages * div_ceil most 64)))
