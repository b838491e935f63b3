-- The commands that a seed generates, each computed from one word of 64 bits of the random generator SplitMix64.
use Rattle.std.specs.Prelude.{ℕ, ◌/◌, ◌%◌, ◌^◌, ◌==◌, List, [], ◌∷◌, map, nat_lt, zero, suc, if◌then◌else◌}
use Rattle.std.specs.Int.{w64, to_le_bytes}
use Rattle.rand_xoshiro.specs.SplitMix64.{mix_u64}
use Rattle.script_reader.specs.declared.command.Command.{Command}
use Rattle.script_reader.specs.declared.command.Command.TheVariants.{Malloc, Free, Write, Read}

-- the id of the command of this word: below 4,096
abbrev pub id_named : ℕ → ℕ
id_named word = word % 4096

-- The number of bytes of the object, if the command of this word is a malloc: the word without its low 16 bits, modulo 16,384 if bits 32 to 34 are 0, else
-- modulo 1,024.
abbrev pub bytes_asked : ℕ → ℕ
bytes_asked word = word / 2 ^ 16 % (if word / 2 ^ 32 % 8 == 0 then 16384 else 1024)

-- bits 12 to 14 of the word, a number below eight, which chooses the command (`command_of_word`)
abbrev pub one_of_eight : ℕ → ℕ
one_of_eight word = word / 2 ^ 12 % 8

-- The command of a word, by `one_of_eight`: 0 to 2 a malloc, 3 and 4 a free, 5 a write of the word's eight bytes at 0, 6 and 7 a read of eight bytes at 0.
abbrev pub command_of_word : ℕ → Command
command_of_word word =
    if nat_lt (one_of_eight word) 3 then Malloc (id_named word) (bytes_asked word)
    else (if nat_lt (one_of_eight word) 5 then Free (id_named word)
    else (if one_of_eight word == 5 then Write (id_named word) 0 (to_le_bytes w64 word) else Read (id_named word) 0 8))

-- the first `count` words that SplitMix64 makes from this state on
abbrev pub words_from : ℕ → ℕ → List ℕ
words_from state zero = []
words_from state (suc count) = (mix_u64 state).0 ∷ words_from (mix_u64 state).1 count

-- the first `count` commands of a seed: SplitMix64 starts with the seed as its state, and each command takes one word
abbrev pub generated : ℕ → ℕ → List Command
generated seed count = map command_of_word (words_from seed count)
