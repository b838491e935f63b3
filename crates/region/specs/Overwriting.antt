-- What writing bytes into consecutive words of a region (`run`) does; a byte of such words; and how many words hold a number of bytes.
use Rattle.std.specs.Prelude.{◌≡◌, ℕ, ◌+◌, ◌*◌, ◌/◌, ◌%◌, ◌^◌, ◌<◌, List, length, slice_index}
use Rattle.page_model.specs.Bytes.{byte_of}
use Rattle.page_model.specs.Image.{IsOutside, WordRange}
use Rattle.region.specs.Cells.{overwritten}

-- byte k of the words from word `first` on
abbrev pub byte_from : List ℕ → ℕ → ℕ → ℕ
byte_from words first k = byte_of (k % 8) (slice_index words (first + k / 8))

-- how many words hold the first `at + count` bytes of a list of words
abbrev pub words_with : ℕ → ℕ → ℕ
words_with at count = (at + count + 7) / 8

-- The words `old` become `new`, as many: `bytes` replace the bytes of the run from byte `from` of its first word on. No other byte and no other word
-- changes. Each word of the run is then below 2^64.
pub record Overwrites (old new : List ℕ) (run : WordRange) (from : ℕ) (bytes : List ℕ) : Type 0 where
  pub long : length new ≡ length old
  pub others : (w : ℕ) → IsOutside run.from run.count w → slice_index new w ≡ slice_index old w
  pub small : (i : ℕ) → i < run.count → slice_index new (run.from + i) < 2 ^ 64
  pub value : (j : ℕ) → j < 8 * run.count → byte_from new run.from j ≡ overwritten (byte_from old run.from) from bytes j
