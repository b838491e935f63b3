-- The steps of touching many words, by kind of manager. Each word costs one step. The non-moving manager also reads an entry of its block table for each block
-- of four words.
use Rattle.std.specs.Prelude.{ℕ, ◌+◌, ◌*◌, ◌/◌, ◌%◌, min}
use Rattle.cf_base.specs.declared.kind.Kind.{Kind}
use Rattle.cf_base.specs.declared.kind.Kind.TheVariants.{Moving, NonMoving, Tlsf, HalfFit}

-- in how many blocks the n words from word i on are
abbrev pub blocks_of : ℕ → ℕ → ℕ
blocks_of i n = min n ((i % 4 + n + 3) / 4)

-- the steps of reading or writing the n words from word i on: one for each word, and for the non-moving kind one more for each block that they are in
abbrev pub run_steps : Kind → ℕ → ℕ → ℕ
run_steps Moving i n = n
run_steps NonMoving i n = n + blocks_of i n
run_steps Tlsf i n = n
run_steps HalfFit i n = n

-- the steps of copying n words, from word i on, to another place: one for each word, and for the non-moving kind two more for each block that they are in
abbrev pub copy_steps : Kind → ℕ → ℕ → ℕ
copy_steps Moving i n = n
copy_steps NonMoving i n = n + 2 * blocks_of i n
copy_steps Tlsf i n = n
copy_steps HalfFit i n = n

-- the steps of clearing a slot of n words: one for each word, and for the non-moving kind one more for each block of four words
abbrev pub wipe_steps : Kind → ℕ → ℕ
wipe_steps Moving n = n
wipe_steps NonMoving n = n + n / 4
wipe_steps Tlsf n = n
wipe_steps HalfFit n = n

-- the steps of moving the words of a slot of n words: one for each word, and for the non-moving kind two more for each block of four words
abbrev pub slot_steps : Kind → ℕ → ℕ
slot_steps Moving n = n
slot_steps NonMoving n = n + n / 2
slot_steps Tlsf n = n
slot_steps HalfFit n = n
