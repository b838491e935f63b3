-- The commands that are generated from a seed have fields that fit their types and are in the ranges of the grammar, and none is the command `k`; so a script
-- of them is read back.
use Rattle.std.proofs.Common.{◌≡◌, ◌≤◌, ◌<◌, ◌/◌, ◌%◌, ◌^◌, ◌==◌, ℕ, Bool, zero, suc, true, false, List, [], ◌∷◌, refl, arith, lit≤}
use Rattle.std.specs.Prelude.{⊤, nat_lt, if◌then◌else◌}
use Rattle.std.specs.Int.{w64, to_le_bytes}
use Rattle.hex.specs.Hex.{IsBytes}
use Rattle.rand_xoshiro.specs.SplitMix64.{mix_u64}
use Rattle.script_reader.specs.Items.{is_bound}
use Rattle.script_reader.specs.declared.command.Command.{Command}
use Rattle.script_reader.specs.declared.command.Command.TheVariants.{Malloc, Free, Write, Read}
use Rattle.script_reader.specs.Generated.{bytes_asked, command_of_word, generated, id_named, one_of_eight}
use Rattle.script_reader.specs.ReadBack.{ArePlainCommands, IsCommand}

few_bytes : (word : ℕ) → bytes_asked word < 16384
few_bytes word = go (word / 2 ^ 32 % 8 == 0)
  where
    go : (b : Bool) → word / 2 ^ 16 % (if b then 16384 else 1024) < 16384
    go true = omega arith
    go false = omega arith

abbrev AreLow : List ℕ → Type 0
AreLow [] = ⊤
AreLow (x ∷ xs) = (x < 256) × AreLow xs

bytes_of_low : (xs : List ℕ) → AreLow xs → IsBytes xs
bytes_of_low [] low i = omega arith
bytes_of_low (x ∷ xs) low zero = low.0
bytes_of_low (x ∷ xs) low (suc i) = bytes_of_low xs low.1 i

are_bytes : (word : ℕ) → IsBytes (to_le_bytes w64 word)
are_bytes word = bytes_of_low (to_le_bytes w64 word)
    (omega arith, (omega arith, (omega arith, (omega arith, (omega arith, (omega arith, (omega arith, (omega arith, tt))))))))

-- what holds of each generated command: its fields fit, and it is not `k`
record IsPlain (c : Command) : Type 0 where
  is : IsCommand c
  plain : is_bound c ≡ false

plain_of_word : (word : ℕ) → IsPlain (command_of_word word)
plain_of_word word = go (nat_lt (one_of_eight word) 3) (nat_lt (one_of_eight word) 5) (one_of_eight word == 5)
  where
    id : id_named word ≤ 65535
    id = omega arith

    go : (a b c : Bool) → IsPlain (if a then Malloc (id_named word) (bytes_asked word)
        else (if b then Free (id_named word) else (if c then Write (id_named word) 0 (to_le_bytes w64 word) else Read (id_named word) 0 8)))
    go true b c = record { is = record { formed = tt; typed = (id, (let few = few_bytes word in omega arith)) }; plain = refl }
    go false true c = record { is = record { formed = tt; typed = id }; plain = refl }
    go false false true = record { is = record { formed = (lit≤ tt, lit≤ tt); typed = (id, lit≤ tt, are_bytes word) }; plain = refl }
    go false false false = record { is = record { formed = lit≤ tt; typed = (id, lit≤ tt) }; plain = refl }

pub generated_plain : (seed count : ℕ) → ArePlainCommands (generated seed count)
generated_plain seed zero = tt
generated_plain seed (suc count) =
    let one = plain_of_word (mix_u64 seed).0 in (one.is, one.plain, generated_plain (mix_u64 seed).1 count)
