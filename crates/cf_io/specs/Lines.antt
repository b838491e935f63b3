-- The bytes of a line that is being built, of a reply or a script, at most 9,000; what appending a text (a push) does to them; and a word in hex digits.
use Rattle.std.specs.Prelude.{◌≡◌, ◌<◌, ◌≤◌, ◌+◌, ◌++◌, ℕ, List, length, Result, Ok, Err}
use Rattle.std.specs.Int.{w64, to_be_bytes}
use Rattle.hex.specs.Hex.{encode_lower}
use Rattle.cf_io.specs.declared.line.Full.{Full}

-- the most bytes that a line holds, its line feed included
abbrev pub line_capacity : ℕ
line_capacity = 9000

-- the word v of 8 bytes in hex: 16 digits in lower case, the most significant first
abbrev pub word_text : ℕ → List ℕ
word_text v = encode_lower (to_be_bytes w64 v)

-- a push turned the line `old` into `new`: the text was appended; or, at an error, the line would pass 9,000 bytes with the text, and is unchanged
abbrev pub Pushes : {T : Type 0} → List ℕ → List ℕ → Result T Full → List ℕ → Type 0
Pushes old text (Ok u) new = (new ≡ old ++ text) × (length old + length text ≤ line_capacity)
Pushes old text (Err e) new = (new ≡ old) × (line_capacity < length old + length text)
