-- The memory that a pool asks for.
use Rattle.std.specs.Prelude.{ℕ, ◌*◌}
use Rattle.cf_base.specs.Needed.{one_block}
use Rattle.cf_base.specs.declared.needed.BytesNeeded.{BytesNeeded}

-- the memory for the stack of this many pages
abbrev pub pool_bytes : ℕ → BytesNeeded
pool_bytes pages = one_block (4 * pages)
