-- For `loose_tag.rt`: a borrow of all words of the region of a heap with blocks, from its blocks, from the heap, from what its manager holds, and from the
-- fields of a `Held`. When the borrow ends, the region has the words as they then are, and all else is as before.
use Rattle.std.specs.Prelude.{ℕ, List, Option}
use Rattle.std.specs.Borrow.{Fml, Lends, MutBor, u64, Array}
use Rattle.std.specs.contracts.option.Option.{the_row as option_row}
use Rattle.held_heap.specs.LooseTag.{blocks_all, held_all, inner_all, open_all}
use Rattle.held_heap.specs.declared.loose_tag.LooseBlocks.{LooseBlocks}
use Rattle.held_heap.specs.declared.loose_tag.LooseOpen.{LooseOpen}
use Rattle.held_heap.specs.declared.loose_tag.LooseTag.{LooseTag}
use Rattle.held_heap.specs.contracts.loose_tag.LooseBlocks.{the_row as blocks_row}
use Rattle.held_heap.specs.contracts.loose_tag.LooseOpen.{the_row as open_row}
use Rattle.held_heap.specs.contracts.loose_tag.LooseTag.{the_row}

-- s is the borrow of the blocks of an open heap, r that of all words of their region. When r ends, the blocks have the words that r leaves, and are else
-- unchanged.
abbrev pub LendsAllOfBlocks : MutBor LooseBlocks → MutBor (List ℕ) → Fml
LendsAllOfBlocks s r = Lends blocks_row (Array u64 0) s r (blocks_all s.now)

-- s is the borrow of an open heap, r that of all words of its region. When r ends, the heap has the words that r leaves, and is else unchanged.
abbrev pub LendsAllOfOpen : MutBor LooseOpen → MutBor (List ℕ) → Fml
LendsAllOfOpen s r = Lends open_row (Array u64 0) s r (open_all s.now)

-- s is the borrow of what a manager holds, an open heap or none, r that of all words of the heap's region. When r ends, the heap has the words that r leaves,
-- and is else unchanged.
abbrev pub LendsAllIn : MutBor (Option LooseOpen) → MutBor (List ℕ) → Fml
LendsAllIn s r = Lends (option_row open_row) (Array u64 0) s r (inner_all s.now)

-- s is the borrow of the fields of a `Held`, r that of all words of its region. When r ends, the heap has the words that r leaves, and is else unchanged.
abbrev pub LendsAllWords : MutBor LooseTag → MutBor (List ℕ) → Fml
LendsAllWords s r = Lends the_row (Array u64 0) s r (held_all s.now)
