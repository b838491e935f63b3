-- The line that is written for a command: its tokens, separated by single spaces, and a line feed.
use Rattle.std.specs.Prelude.{ℕ, ◌++◌, List, [], ◌∷◌, map, decimal, codes}
use Rattle.hex.specs.Hex.{encode_lower}
use Rattle.script_reader.specs.declared.command.Command.{Command}
use Rattle.script_reader.specs.declared.command.Command.TheVariants.{Malloc, Free, Write, Read, Place, Block, Peek, Walk, Frag, Steps, Bound, Resize, Slice}
use Rattle.script_reader.specs.declared.command.Command.TheVariants.{Task, Quota, Need, Admit}

-- the bytes of the tokens, with a space (32) before each
abbrev pub after_spaces : List (List ℕ) → List ℕ
after_spaces [] = []
after_spaces (token ∷ rest) = (32 ∷ token) ++ after_spaces rest

-- the bytes of the tokens, with a space between each two
abbrev pub spaced : List (List ℕ) → List ℕ
spaced [] = []
spaced (token ∷ rest) = token ++ after_spaces rest

-- the tokens of a line: the token `word`, and then these numbers in decimal, without leading zeros
abbrev pub word_and_numbers : List ℕ → List ℕ → List (List ℕ)
word_and_numbers word numbers = word ∷ map decimal numbers

-- the tokens of a command's line; the bytes of a write are lower-case hexadecimal digits
abbrev pub tokens_of : Command → List (List ℕ)
tokens_of (Malloc id bytes) = word_and_numbers (codes "m") (id ∷ bytes ∷ [])
tokens_of (Free id) = word_and_numbers (codes "f") (id ∷ [])
tokens_of (Write id at bytes) = codes "w" ∷ decimal id ∷ decimal at ∷ encode_lower bytes ∷ []
tokens_of (Read id at len) = word_and_numbers (codes "r") (id ∷ at ∷ len ∷ [])
tokens_of (Place id) = word_and_numbers (codes "q") (id ∷ [])
tokens_of (Block id i) = word_and_numbers (codes "b") (id ∷ i ∷ [])
tokens_of (Peek word) = word_and_numbers (codes "p") (word ∷ [])
tokens_of Walk = codes "walk" ∷ []
tokens_of Frag = codes "frag" ∷ []
tokens_of Steps = codes "steps" ∷ []
tokens_of (Bound slot_words k) = word_and_numbers (codes "k") (slot_words ∷ k ∷ [])
tokens_of (Resize id bytes) = word_and_numbers (codes "z") (id ∷ bytes ∷ [])
tokens_of Slice = codes "s" ∷ []
tokens_of (Task task) = word_and_numbers (codes "t") (task ∷ [])
tokens_of (Quota task pages) = word_and_numbers (codes "quota") (task ∷ pages ∷ [])
tokens_of (Need task bytes count) = word_and_numbers (codes "need") (task ∷ bytes ∷ count ∷ [])
tokens_of (Admit task) = word_and_numbers (codes "admit") (task ∷ [])

-- the bytes of a command's line, with its line feed (10)
abbrev pub line_of : Command → List ℕ
line_of c = spaced (tokens_of c) ++ 10 ∷ []
