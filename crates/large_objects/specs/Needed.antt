-- The memory that a heap of long objects asks for.
use Rattle.std.specs.Prelude.{ℕ, ◌*◌}
use Rattle.cf_base.specs.Needed.{both, one_block}
use Rattle.cf_base.specs.declared.needed.BytesNeeded.{BytesNeeded}

-- the memory that a heap of long objects asks for: what its inner manager asks for (`inner`), and one block with a length of eight bytes for each proxy
abbrev pub large_bytes : BytesNeeded → ℕ → BytesNeeded
large_bytes inner proxies = both inner (one_block (8 * proxies))
