-- The memory that the page lists of a heap or a task ask for.
use Rattle.std.specs.Prelude.{ℕ, ◌+◌, ◌*◌}
use Rattle.cf_base.specs.Needed.{both, one_block, times}
use Rattle.cf_base.specs.declared.needed.BytesNeeded.{BytesNeeded}

-- The memory for the lists of this many classes and pages. A page and a list have two links each, and a list has its count of pages; each class
-- has two lists.
abbrev pub list_bytes : ℕ → ℕ → BytesNeeded
list_bytes classes pages = both (times 2 (one_block (4 * (pages + 2 * classes)))) (times 2 (one_block (4 * classes)))
