-- For the laws of this crate: the commands that are the same once written as a line and read back (`IsCommand`), with fields of 16 and of 32 bits, and the
-- scripts of a `heap` line and such lines.
use Rattle.std.specs.Prelude.{◌≡◌, ◌≤◌, ⊤, ℕ, false, ◌++◌, List, [], ◌∷◌, None, codes}
use Rattle.cf_base.specs.Settings.{setting_fault}
use Rattle.hex.specs.Hex.{IsBytes}
use Rattle.script_reader.specs.Commands.{IsWellFormed}
use Rattle.script_reader.specs.Items.{is_bound}
use Rattle.script_reader.specs.declared.command.Command.{Command}
use Rattle.script_reader.specs.declared.command.Command.TheVariants.{Malloc, Free, Write, Read, Place, Block, Peek, Bound, Resize}
use Rattle.script_reader.specs.declared.command.Command.TheVariants.{Quota, Need}
use Rattle.script_reader.specs.CommandText.{line_of, spaced, word_and_numbers}

-- a number of 16 bits
abbrev pub IsShort : ℕ → Type 0
IsShort n = n ≤ 65535

-- a number of 32 bits
abbrev pub IsWord : ℕ → Type 0
IsWord n = n ≤ 4294967295

-- the command's fields fit the types of the code's `Command`, as those of every value of that type do; fields that `IsWellFormed` bounds aren't repeated
abbrev pub FitsTypes : Command → Type 0
FitsTypes (Malloc id bytes) = IsShort id × IsWord bytes
FitsTypes (Free id) = IsShort id
FitsTypes (Write id at bytes) = IsShort id × IsWord at × IsBytes bytes
FitsTypes (Read id at len) = IsShort id × IsWord at
FitsTypes (Place id) = IsShort id
FitsTypes (Block id i) = IsShort id × IsWord i
FitsTypes (Peek word) = IsWord word
FitsTypes (Bound slot_words k) = IsWord slot_words
FitsTypes (Resize id bytes) = IsShort id × IsWord bytes
FitsTypes (Quota task pages) = IsWord pages
FitsTypes (Need task bytes count) = IsWord bytes × IsWord count
FitsTypes command = ⊤

-- a command that the code's type `Command` has: its fields fit their types, and are in the ranges of the grammar
pub record IsCommand (c : Command) : Type 0 where
  pub formed : IsWellFormed c
  pub typed : FitsTypes c

-- these numbers may be those of a `heap` line: they have 32 bits, and settings with them are allowed
pub record CanOpen (pages page_bytes k proxies : ℕ) : Type 0 where
  pub typed : IsWord pages × IsWord page_bytes × IsWord k × IsWord proxies
  pub in_range : setting_fault pages page_bytes k proxies ≡ None

-- the bytes of the `heap` line with these numbers, with its line feed
abbrev pub heap_line : ℕ → ℕ → ℕ → ℕ → List ℕ
heap_line pages page_bytes k proxies = spaced (word_and_numbers (codes "heap") (pages ∷ page_bytes ∷ k ∷ proxies ∷ [])) ++ 10 ∷ []

-- the bytes of the lines of the commands, one after the other
abbrev pub command_lines : List Command → List ℕ
command_lines [] = []
command_lines (c ∷ rest) = line_of c ++ command_lines rest

-- each of these is a command of the code's type (`IsCommand`), and none of them is the command `k`
abbrev pub ArePlainCommands : List Command → Type 0
ArePlainCommands [] = ⊤
ArePlainCommands (c ∷ rest) = IsCommand c × (is_bound c ≡ false) × ArePlainCommands rest
