-- Short names for a used and a free block, for the worked examples of mallocs and frees. Addresses and sizes are in words.
use Rattle.std.specs.Prelude.{ℕ, Some, None}
use Rattle.block_model.specs.Tiling.{Block}

-- a used block of `size` words at `address`, of this owner
abbrev pub used : ℕ → ℕ → ℕ → Block
used address size owner = record { address = address; size = size; owner = Some owner }

-- a free block of `size` words at `address`
abbrev pub free : ℕ → ℕ → Block
free address size = record { address = address; size = size; owner = None }
