-- The borrow of all words of the region of an open sliced heap: which words the region has when the borrow ends.
use Rattle.std.specs.Prelude.{ℕ, List, Option}
use Rattle.std.specs.Borrow.{Fml, Lends, MutBor, u64, Array}
use Rattle.std.specs.contracts.option.Option.{the_row as option_row}
use Rattle.sliced_heap.specs.declared.open_heap.OpenHeap.{OpenHeap}
use Rattle.sliced_heap.specs.contracts.open_heap.OpenHeap.{the_row as open_row}
use Rattle.norphuen_sliced.specs.Loose.{sliced_held_all, sliced_inner_all, sliced_region_all}
use Rattle.norphuen_sliced.specs.declared.loose.LooseHeld.{LooseHeld}
use Rattle.norphuen_sliced.specs.contracts.loose.LooseHeld.{the_row}

-- s is the borrow of an open heap, r that of all words of its region: when r ends, the region has the words that r then
-- has
abbrev pub LendsSlicedOf : MutBor OpenHeap → MutBor (List ℕ) → Fml
LendsSlicedOf s r = Lends open_row (Array u64 0) s r (sliced_region_all s.now)

-- as `LendsSlicedOf`, but s is the borrow of an open heap or of `None`
abbrev pub LendsSlicedIn : MutBor (Option OpenHeap) → MutBor (List ℕ) → Fml
LendsSlicedIn s r = Lends (option_row open_row) (Array u64 0) s r (sliced_inner_all s.now)

-- as `LendsSlicedOf`, but s is the borrow of the fields of a `Held`
abbrev pub LendsSlicedWords : MutBor LooseHeld → MutBor (List ℕ) → Fml
LendsSlicedWords s r = Lends the_row (Array u64 0) s r (sliced_held_all s.now)
