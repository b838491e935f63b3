-- The lines of a script, from its bytes, and the tokens of a line.
use Rattle.std.specs.Prelude.{ℕ, Bool, true, false, ◌||◌, ◌==◌, ◌-◌, List, [], ◌∷◌, length, take, slice_index, nat_lt, if◌then◌else◌}

-- the most bytes of a line, its line feed not counted
abbrev pub LONGEST : ℕ
LONGEST = 8999

-- whether a line has more bytes than any line may have
abbrev pub is_too_long : List ℕ → Bool
is_too_long line = nat_lt LONGEST (length line)

-- the texts, with the byte x put before the first one; if there is none, one text of the byte x alone
abbrev pub onto_first : ℕ → List (List ℕ) → List (List ℕ)
onto_first x [] = (x ∷ []) ∷ []
onto_first x (text ∷ rest) = (x ∷ text) ∷ rest

-- the texts into which the line feeds divide these bytes: one more than there are line feeds
abbrev pub stretches : List ℕ → List (List ℕ)
stretches [] = [] ∷ []
stretches (x ∷ rest) = if x == 10 then [] ∷ stretches rest else onto_first x (stretches rest)

-- whether the bytes after the last line feed count as a line: there is at least one, and the input has ended (`ended`) or they are more than a line may have
abbrev pub is_last_line : Bool → List ℕ → Bool
is_last_line ended [] = false
is_last_line ended (x ∷ rest) = ended || is_too_long (x ∷ rest)

-- the texts that are lines: all but the last one, and also the last one if `is_last_line` is true of it
abbrev pub lines_among : Bool → List (List ℕ) → List (List ℕ)
lines_among ended [] = []
lines_among ended (last ∷ []) = if is_last_line ended last then last ∷ [] else []
lines_among ended (line ∷ next ∷ rest) = line ∷ lines_among ended (next ∷ rest)

-- the lines of these bytes; `ended` is whether the input ends after them
abbrev pub lines : List ℕ → Bool → List (List ℕ)
lines bytes ended = lines_among ended (stretches bytes)

-- the line without its last byte if that is a carriage return (13), else the line itself
abbrev pub without_return : List ℕ → List ℕ
without_return line = if slice_index line (length line - 1) == 13 then take (length line - 1) line else line

-- whether the byte is a gap, a space or a tab: it separates tokens
abbrev pub is_gap : ℕ → Bool
is_gap x = x == 32 || x == 9

-- whether a token may end before these bytes: there are none, or the first is a gap
abbrev pub is_parted : List ℕ → Bool
is_parted [] = true
is_parted (x ∷ rest) = is_gap x

-- the tokens of a line: its longest runs of bytes that are no gaps
abbrev pub tokens : List ℕ → List (List ℕ)
tokens [] = []
tokens (x ∷ rest) = if is_gap x then tokens rest
    else (if is_parted rest then (x ∷ []) ∷ tokens rest else onto_first x (tokens rest))
