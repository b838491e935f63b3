-- The memory that a table of size classes asks for.
use Rattle.std.specs.Prelude.{ℕ, ◌+◌, ◌*◌, length}
use Rattle.cf_base.specs.Classes.{sizes}
use Rattle.cf_base.specs.Needed.{both, one_block}
use Rattle.cf_base.specs.declared.kind.Layout.{Layout}
use Rattle.cf_base.specs.declared.needed.BytesNeeded.{BytesNeeded}

-- the memory of the table for pages of `page_words` words: one block with the slot sizes,
-- 4 bytes each, and one with the class of each need from 0 to `page_words` words, 1 byte each
abbrev pub class_table_bytes : ℕ → Layout → BytesNeeded
class_table_bytes page_words layout = both (one_block (4 * length (sizes page_words layout))) (one_block (page_words + 1))
