-- For `loose.rt`: a borrow of all words of a moving heap's region, from the heap, from what its manager holds, and from the fields of a `Held`. When the borrow
-- ends, the region has the words as they then are, and all else is as before.
use Rattle.std.specs.Prelude.{ℕ, List, Option}
use Rattle.std.specs.Borrow.{Fml, Lends, MutBor, u64, Array}
use Rattle.std.specs.contracts.option.Option.{the_row as option_row}
use Rattle.paged_heap.specs.declared.open_heap.OpenHeap.{OpenHeap}
use Rattle.paged_heap.specs.contracts.open_heap.OpenHeap.{the_row as open_row}
use Rattle.held_heap.specs.Loose.{held_all, inner_all, region_all}
use Rattle.held_heap.specs.declared.loose.LooseHeld.{LooseHeld}
use Rattle.held_heap.specs.contracts.loose.LooseHeld.{the_row}

-- s is the borrow of an open heap, r that of all words of its region. When r ends, the heap has the words that r leaves, and is else unchanged.
abbrev pub LendsAllOf : MutBor OpenHeap → MutBor (List ℕ) → Fml
LendsAllOf s r = Lends open_row (Array u64 0) s r (region_all s.now)

-- s is the borrow of what a manager holds, an open heap or none, r that of all words of the heap's region. When r ends, the heap has the words that r leaves,
-- and is else unchanged.
abbrev pub LendsAllIn : MutBor (Option OpenHeap) → MutBor (List ℕ) → Fml
LendsAllIn s r = Lends (option_row open_row) (Array u64 0) s r (inner_all s.now)

-- s is the borrow of the fields of a `Held`, r that of all words of its region. When r ends, the heap has the words that r leaves, and is else unchanged.
abbrev pub LendsAllWords : MutBor LooseHeld → MutBor (List ℕ) → Fml
LendsAllWords s r = Lends the_row (Array u64 0) s r (held_all s.now)
