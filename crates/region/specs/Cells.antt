-- The bytes of a list of words, eight to a word, the least significant first; and bytes after some of them are overwritten.
use Rattle.std.specs.Prelude.{ℕ, ◌+◌, ◌-◌, ◌/◌, ◌%◌, ◌&&◌, List, length, slice_index, nat_le, nat_lt, if◌then◌else◌}
use Rattle.page_model.specs.Bytes.{byte_of}

-- byte k of the list of words
abbrev pub byte_in : List ℕ → ℕ → ℕ
byte_in words k = byte_of (k % 8) (slice_index words (k / 8))

-- byte k of a list of bytes after those of `part` replaced its bytes from byte `at` on; `f k` is byte k before that
abbrev pub overwritten : (ℕ → ℕ) → ℕ → List ℕ → ℕ → ℕ
overwritten f at part k = if nat_le at k && nat_lt k (at + length part) then slice_index part (k - at) else f k
