-- The memory that a proxy table asks for.
use Rattle.std.specs.Prelude.{ℕ, ◌*◌}
use Rattle.cf_base.specs.Needed.{both, one_block}
use Rattle.cf_base.specs.declared.needed.BytesNeeded.{BytesNeeded}

-- the memory for n numbers: a cell for the address of each, which also shows whether there is one, and the stack of the
-- free numbers
abbrev pub proxy_bytes : ℕ → BytesNeeded
proxy_bytes n = both (one_block (8 * n)) (one_block (4 * n))
