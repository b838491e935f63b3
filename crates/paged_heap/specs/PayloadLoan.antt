-- The open heap after a borrow of words of its region, and what `find_words` returns. No public clause cites this module.
use Rattle.std.specs.Prelude.{ℕ, ◌+◌, ◌/◌, ◌^◌, Bool, true, false, List, Option, Some, None, slice_index}
use Rattle.std.specs.Borrow.{Lends, MutBor, Fml, u64, Array}
use Rattle.std.specs.FinMap.{get}
use Rattle.std.specs.contracts.option.Option.{the_row as option_row}
use Rattle.region.specs.Lending.{with_words}
use Rattle.paged_heap.specs.declared.open_heap.OpenHeap.{OpenHeap}
use Rattle.paged_heap.specs.contracts.open_heap.OpenHeap.{the_row}

-- the heap after the words ws were written over the n words of the region from i on
abbrev pub with_run : OpenHeap → ℕ → ℕ → List ℕ → OpenHeap
with_run h i n ws = record h { region = with_words h.region i n ws }

-- the heap after ws were written over the whole words of the object at an address, whose length is in its header
abbrev pub with_payload_at : OpenHeap → ℕ → List ℕ → OpenHeap
with_payload_at h place ws = with_run h (place + 1) (slice_index h.region place / 2 ^ 32 / 8) ws

-- the heap after ws were written over the whole words of the object at this address; unchanged if there is none
abbrev pub with_payload_of : OpenHeap → Option ℕ → List ℕ → OpenHeap
with_payload_of h None ws = h
with_payload_of h (Some place) ws = with_payload_at h place ws

-- the heap, if it is open, after ws were written over the whole words of object q; unchanged if that is not live
abbrev pub with_payload_in : Option OpenHeap → ℕ → List ℕ → Option OpenHeap
with_payload_in None q ws = None
with_payload_in (Some h) q ws = Some (with_payload_of h (get h.proxies.places q) ws)

-- what `find_words` returns: whether there is an object at this address, the index of the first of its whole words, and their number
abbrev pub words_found : OpenHeap → Option ℕ → Bool × ℕ × ℕ
words_found h None = (false, 0, 0)
words_found h (Some place) = (true, place + 1, slice_index h.region place / 2 ^ 32 / 8)

-- s is a heap that lends the n words r of its region from i on: after the borrow its region has the words that were written there
abbrev pub LendsRun : MutBor OpenHeap → ℕ → ℕ → MutBor (List ℕ) → Fml
LendsRun s i n r = Lends the_row (Array u64 0) s r (with_run s.now i n)

-- s is a heap that lends the whole words r of object q: after the borrow the object has the words that were written there
abbrev pub LendsPayloadOf : MutBor OpenHeap → ℕ → MutBor (List ℕ) → Fml
LendsPayloadOf s q r = Lends the_row (Array u64 0) s r (with_payload_of s.now (get s.now.proxies.places q))

-- as `LendsPayloadOf`, for the heap of a manager, which may be closed
abbrev pub LendsPayloadIn : MutBor (Option OpenHeap) → ℕ → MutBor (List ℕ) → Fml
LendsPayloadIn s q r = Lends (option_row the_row) (Array u64 0) s r (with_payload_in s.now q)
