-- Where the words and the bytes of an object are, also while a job moves it: the words that were moved, its first half, at its new address, the others in its
-- old slot. Also how many of some bytes are in the first half, and when the halves don't overlap.
use Rattle.std.specs.Prelude.{◌≢◌, ℕ, ◌+◌, ◌-◌, ◌*◌, ◌/◌, ◌%◌, ◌<◌, ◌≤◌, List, slice_index, if◌then◌else◌, nat_eq, nat_le, min}
use Rattle.page_model.specs.Bytes.{byte_of}
use Rattle.slice_model.specs.State.{Job, Idle, Clear, Move}
use Rattle.sliced_heap.specs.declared.halves.Halves.{Halves}

-- the address of word i of the object with these halves; word 0 is its header
abbrev pub place_of_word : Halves → ℕ → ℕ
place_of_word s i = if nat_le s.done i then s.from + i else s.to + i

-- byte k of the object with these halves, read from the word of the region that holds it
abbrev pub byte_in_halves : Halves → List ℕ → ℕ → ℕ
byte_in_halves s words k = byte_of (k % 8) (slice_index words (place_of_word s (1 + k / 8)))

-- of the object's `count` bytes from byte `at` on, the number of those that are in the first half, whose first word is the header
abbrev pub first_bytes : Halves → ℕ → ℕ → ℕ
first_bytes s at count = min (8 * (s.done - 1) - at) count

-- no word of the first half has the same address as one of the second half, among the object's first n words
abbrev pub HalvesAreApart : Halves → ℕ → Type 0
HalvesAreApart s n = (i k : ℕ) → i < s.done → s.done ≤ k → k < n → s.to + i ≢ s.from + k

-- the halves of an object at address a that no job moves: all its words are there
abbrev pub together : ℕ → Halves
together a = record { to = a; from = a; done = 0 }

-- the halves of object h, whose address in its proxy is a, while this job is pending, or none (`Idle`)
abbrev pub halves_of : Job → ℕ → ℕ → Halves
halves_of Idle h a = together a
halves_of (Clear k) h a = together a
halves_of (Move q k) h a = if nat_eq q h then record { to = a; from = k.address; done = k.done } else together a
