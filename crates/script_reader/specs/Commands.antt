-- The grammar of a command, of its fields, and of the settings of a `heap` line. A token is a list of bytes; `args` is the tokens after the first one of a
-- line. An optional value is none if the tokens are not of its form.
use Rattle.std.specs.Prelude.{◌≤◌, ℕ, Bool, true, false, ◌==◌, List, [], ◌∷◌, length, Option, Some, None, option_map, if◌then◌else◌}
use Rattle.std.specs.Result.{result_ok}
use Rattle.std.specs.Str.{bytes_eq, byte}
use Rattle.std.specs.Prelude.{codes}
use Rattle.hex.specs.Hex.{decode_of}
use Rattle.cf_base.specs.Limits.{is_within}
use Rattle.cf_base.specs.Settings.{Profile, profile_from, setting_fault}
use Rattle.cf_base.specs.declared.numbers.TheConstants.{CHUNK}
use Rattle.cf_base.specs.declared.settings.SettingFault.{SettingFault}
use Rattle.cf_io.specs.Numbers.{number_in}
use Rattle.script_reader.specs.declared.command.Command.{Command}
use Rattle.script_reader.specs.declared.command.Command.TheVariants.{Malloc, Free, Write, Read, Place, Block, Peek, Walk, Frag, Steps, Bound, Resize, Slice}
use Rattle.script_reader.specs.declared.command.Command.TheVariants.{Task, Quota, Need, Admit}

-- the value of f at x; none if there is no x, or f has no value there
infixl 10 ◌>>=◌
abbrev pub ◌>>=◌ : {A B : Type 0} → Option A → (A → Option B) → Option B
None >>= f = None
Some x >>= f = f x

-- whether there is no token
abbrev pub none_of : List (List ℕ) → Bool
none_of [] = true
none_of (a ∷ rest) = false

-- the token, if there is exactly one
abbrev pub one_of : List (List ℕ) → Option (List ℕ)
one_of (a ∷ []) = Some a
one_of _ = None

-- the tokens, if there are exactly two
abbrev pub two_of : List (List ℕ) → Option (List ℕ × List ℕ)
two_of (a ∷ b ∷ []) = Some (a, b)
two_of _ = None

-- the tokens, if there are exactly three
abbrev pub three_of : List (List ℕ) → Option (List ℕ × List ℕ × List ℕ)
three_of (a ∷ b ∷ c ∷ []) = Some (a, b, c)
three_of _ = None

-- the tokens, if there are exactly four
abbrev pub four_of : List (List ℕ) → Option (List ℕ × List ℕ × List ℕ × List ℕ)
four_of (a ∷ b ∷ c ∷ d ∷ []) = Some (a, b, c, d)
four_of _ = None

-- the number that a token spells, if it is from low to high
abbrev pub number_from : ℕ → ℕ → List ℕ → Option ℕ
number_from low high text = do
  n ← number_in text
  (if is_within low high n then Some n else None)

-- the id that a token spells: a number of at most 65,535
abbrev pub id_in : List ℕ → Option ℕ
id_in text = number_from 0 65535 text

-- the number of bytes for a read that a token spells, at most 4,096
abbrev pub length_in : List ℕ → Option ℕ
length_in text = number_from 0 CHUNK text

-- the bound of a class that a token spells, from 1 to 64
abbrev pub bound_in : List ℕ → Option ℕ
bound_in text = number_from 1 64 text

-- the task that a token spells: a number of at most 15
abbrev pub task_in : List ℕ → Option ℕ
task_in text = number_from 0 15 text

-- the bytes that a token spells: an even number of hexadecimal digits in either case, from 2 to 8,192 of them
abbrev pub bytes_in : List ℕ → Option (List ℕ)
bytes_in text = if is_within 2 8192 (length text) then result_ok (decode_of text) else None

-- An id, if that is the only token. The definitions below read other lists of fields. Each is none unless the tokens are exactly these fields, each in its
-- range.
abbrev pub one_id : List (List ℕ) → Option ℕ
one_id args = do
  a ← one_of args
  id_in a

-- a number of 32 bits, if that is the only token
abbrev pub one_number : List (List ℕ) → Option ℕ
one_number args = do
  a ← one_of args
  number_in a

-- a task, if that is the only token
abbrev pub one_task : List (List ℕ) → Option ℕ
one_task args = do
  a ← one_of args
  task_in a

-- an id and a number of 32 bits, if those are the tokens
abbrev pub id_and_number : List (List ℕ) → Option (ℕ × ℕ)
id_and_number args = do
  p ← two_of args
  id ← id_in p.0
  n ← number_in p.1
  Some (id, n)

-- a number of 32 bits and the bound of a class, if those are the tokens
abbrev pub number_and_bound : List (List ℕ) → Option (ℕ × ℕ)
number_and_bound args = do
  p ← two_of args
  n ← number_in p.0
  k ← bound_in p.1
  Some (n, k)

-- a task and a number of 32 bits, if those are the tokens
abbrev pub task_and_number : List (List ℕ) → Option (ℕ × ℕ)
task_and_number args = do
  p ← two_of args
  task ← task_in p.0
  n ← number_in p.1
  Some (task, n)

-- a task and two numbers of 32 bits, if those are the tokens
abbrev pub task_and_numbers : List (List ℕ) → Option (ℕ × ℕ × ℕ)
task_and_numbers args = do
  p ← three_of args
  task ← task_in p.0
  m ← number_in p.1
  n ← number_in p.2
  Some (task, m, n)

-- an id, a number of 32 bits, and a number of bytes for a read, if those are the tokens
abbrev pub id_number_and_length : List (List ℕ) → Option (ℕ × ℕ × ℕ)
id_number_and_length args = do
  p ← three_of args
  id ← id_in p.0
  n ← number_in p.1
  len ← length_in p.2
  Some (id, n, len)

-- an id, a number of 32 bits, and any third token, if those are the tokens
abbrev pub id_number_and_text : List (List ℕ) → Option (ℕ × ℕ × List ℕ)
id_number_and_text args = do
  p ← three_of args
  id ← id_in p.0
  n ← number_in p.1
  Some (id, n, p.2)

-- the command of a line m ID BYTES, from the tokens after m; below, the same for each other form of a line
abbrev pub malloc_in : List (List ℕ) → Option Command
malloc_in args = option_map (λ p. Malloc p.0 p.1) (id_and_number args)

-- the command of a line f ID
abbrev pub free_in : List (List ℕ) → Option Command
free_in args = option_map (λ id. Free id) (one_id args)

-- the command of a line w ID AT HEX
abbrev pub write_in : List (List ℕ) → Option Command
write_in args = do
  p ← id_number_and_text args
  bytes ← bytes_in p.2
  Some (Write p.0 p.1 bytes)

-- the command of a line r ID AT LEN
abbrev pub read_in : List (List ℕ) → Option Command
read_in args = option_map (λ p. Read p.0 p.1 p.2) (id_number_and_length args)

-- the command of a line q ID
abbrev pub place_command_in : List (List ℕ) → Option Command
place_command_in args = option_map (λ id. Place id) (one_id args)

-- the command of a line b ID I
abbrev pub block_command_in : List (List ℕ) → Option Command
block_command_in args = option_map (λ p. Block p.0 p.1) (id_and_number args)

-- the command of a line p WORD
abbrev pub peek_in : List (List ℕ) → Option Command
peek_in args = option_map (λ word. Peek word) (one_number args)

-- the command of a line k SLOTWORDS K
abbrev pub bound_command_in : List (List ℕ) → Option Command
bound_command_in args = option_map (λ p. Bound p.0 p.1) (number_and_bound args)

-- the command of a line z ID BYTES
abbrev pub resize_in : List (List ℕ) → Option Command
resize_in args = option_map (λ p. Resize p.0 p.1) (id_and_number args)

-- the command of a line t TASK
abbrev pub task_command_in : List (List ℕ) → Option Command
task_command_in args = option_map (λ task. Task task) (one_task args)

-- the command of a line quota TASK PAGES
abbrev pub quota_in : List (List ℕ) → Option Command
quota_in args = option_map (λ p. Quota p.0 p.1) (task_and_number args)

-- the command of a line need TASK BYTES COUNT
abbrev pub need_in : List (List ℕ) → Option Command
need_in args = option_map (λ p. Need p.0 p.1 p.2) (task_and_numbers args)

-- the command of a line admit TASK
abbrev pub admit_in : List (List ℕ) → Option Command
admit_in args = option_map (λ task. Admit task) (one_task args)

-- this command, if no token comes after its word: for the lines walk, frag, steps and s
abbrev pub alone_in : Command → List (List ℕ) → Option Command
alone_in command args = if none_of args then Some command else None

-- the command of a line whose first token is this one letter, with `args` after it
abbrev pub letter_command : ℕ → List (List ℕ) → Option Command
letter_command letter args =
    if letter == byte "m" then malloc_in args
    else (if letter == byte "f" then free_in args
    else (if letter == byte "w" then write_in args
    else (if letter == byte "r" then read_in args
    else (if letter == byte "q" then place_command_in args
    else (if letter == byte "b" then block_command_in args
    else (if letter == byte "p" then peek_in args
    else (if letter == byte "k" then bound_command_in args
    else (if letter == byte "z" then resize_in args
    else (if letter == byte "s" then alone_in Slice args
    else (if letter == byte "t" then task_command_in args else None))))))))))

-- the command of a line whose first token is this word, which is longer than a letter and isn't heap, with `args` after it
abbrev pub word_command : List ℕ → List (List ℕ) → Option Command
word_command word args =
    if bytes_eq word (codes "walk") then alone_in Walk args
    else (if bytes_eq word (codes "frag") then alone_in Frag args
    else (if bytes_eq word (codes "steps") then alone_in Steps args
    else (if bytes_eq word (codes "quota") then quota_in args
    else (if bytes_eq word (codes "need") then need_in args
    else (if bytes_eq word (codes "admit") then admit_in args else None)))))

-- the command of a line with this first token and `args` after it
abbrev pub command_of : List ℕ → List (List ℕ) → Option Command
command_of (letter ∷ []) args = letter_command letter args
command_of word args = word_command word args

-- these settings, if no fault was found in them
abbrev pub settings_if : Option SettingFault → Profile → Option Profile
settings_if None settings = Some settings
settings_if (Some fault) settings = None

-- the settings of a line heap PAGES PAGEBYTES K PROXIES, from the tokens after heap; none also if they aren't allowed (`setting_fault` finds a fault)
abbrev pub settings_in : List (List ℕ) → Option Profile
settings_in args = do
  p ← four_of args
  pages ← number_in p.0
  page_bytes ← number_in p.1
  k ← number_in p.2
  proxies ← number_in p.3
  settings_if (setting_fault pages page_bytes k proxies) (profile_from pages page_bytes k proxies)

-- The fields of the command are in the ranges of the grammar. Only the fields whose types allow more are listed.
abbrev pub IsWellFormed : Command → Type 0
IsWellFormed (Write id at bytes) = (1 ≤ length bytes) × (length bytes ≤ CHUNK)
IsWellFormed (Read id at len) = len ≤ CHUNK
IsWellFormed (Bound slot_words k) = (1 ≤ k) × (k ≤ 64)
IsWellFormed (Task task) = task ≤ 15
IsWellFormed (Quota task pages) = task ≤ 15
IsWellFormed (Need task bytes count) = task ≤ 15
IsWellFormed (Admit task) = task ≤ 15
IsWellFormed _ = Unit {0}
