-- The memory that opening a heap or making a table asks the allocator for, as `BytesNeeded`: of one block, of some blocks n times over,
-- and of two lots of blocks together. What each table asks for is in a file of this name in the table's own crate.
use Rattle.std.specs.Prelude.{ℕ, ◌+◌, ◌*◌, max}
use Rattle.cf_base.specs.declared.needed.BytesNeeded.{BytesNeeded}

-- one block of this many bytes
abbrev pub one_block : ℕ → BytesNeeded
one_block bytes = record { blocks = 1; total = bytes; largest = bytes }

-- the blocks of `a` n times over, for an n of at least 1
abbrev pub times : ℕ → BytesNeeded → BytesNeeded
times n a = record { blocks = n * a.blocks; total = n * a.total; largest = a.largest }

-- the blocks of `a` and those of `b` together
abbrev pub both : BytesNeeded → BytesNeeded → BytesNeeded
both a b = record { blocks = a.blocks + b.blocks; total = a.total + b.total; largest = max a.largest b.largest }
