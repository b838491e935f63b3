-- What a script means: its bytes as items, which are commands, the `heap` line, and the first bad line. Also what a line means by itself and at its place, and
-- when items are the first of others.
use Rattle.std.specs.Prelude.{◌≡◌, ◌++◌, ◌==◌, ℕ, Bool, true, false, ◌+◌, List, [], ◌∷◌, Option, Some, None, codes, option_map, if◌then◌else◌}
use Rattle.std.specs.Str.{bytes_eq, byte}
use Rattle.cf_base.specs.Settings.{Profile}
use Rattle.script_reader.specs.Commands.{command_of, settings_in}
use Rattle.script_reader.specs.Lines.{is_too_long, lines, tokens, without_return}
use Rattle.script_reader.specs.declared.command.Command.{Command}
use Rattle.script_reader.specs.declared.command.Command.TheVariants.{Bound}
use Rattle.script_reader.specs.declared.stage.Stage.{Stage}
use Rattle.script_reader.specs.declared.stage.Stage.TheVariants.{Opening, Bounding, Running}

-- an item of a script: a `heap` line with its settings, a command, or the number of the bad line at which the script ends
pub data Item : Type 0 where
  starts : Profile → Item
  asks : Command → Item
  bad : ℕ → Item

-- what a line means by itself: `nothing` if it is blank or a comment, `wrong` if it isn't in the grammar, else its item
pub data LineMeaning : Type 0 where
  nothing : LineMeaning
  wrong : LineMeaning
  item : Item → LineMeaning

-- whether the token begins with `#`, as the first token of a comment does
abbrev pub is_comment : List ℕ → Bool
is_comment [] = false
is_comment (x ∷ rest) = x == byte "#"

-- the item, by the grammar, of a line with the first token `word` and the tokens `args` after it; none if the line isn't in the grammar
abbrev pub item_in : List ℕ → List (List ℕ) → Option Item
item_in word args = if bytes_eq word (codes "heap") then option_map starts (settings_in args) else option_map asks (command_of word args)

-- the meaning of a line with this item; `wrong` if it has none, since the line isn't in the grammar then
abbrev pub item_or_wrong : Option Item → LineMeaning
item_or_wrong None = wrong
item_or_wrong (Some i) = item i

-- the meaning of a line with these tokens
abbrev pub tokens_say : List (List ℕ) → LineMeaning
tokens_say [] = nothing
tokens_say (word ∷ args) = if is_comment word then nothing else item_or_wrong (item_in word args)

-- the meaning of a line, given without its line feed
abbrev pub line_says : List ℕ → LineMeaning
line_says line = if is_too_long line then wrong else tokens_say (tokens (without_return line))

-- whether the command is `k`
abbrev pub is_bound : Command → Bool
is_bound (Bound slot_words k) = true
is_bound _ = false

-- the stage after a command, which is `k` if `bounds` is true; none if it isn't allowed: `k` comes only after `heap` and before the other commands
abbrev pub stage_after_command : Stage → Bool → Option Stage
stage_after_command Opening bounds = None
stage_after_command Bounding bounds = Some (if bounds then Bounding else Running)
stage_after_command Running bounds = if bounds then None else Some Running

-- the stage after a `heap` line; none if an item came before it, since `heap` is allowed only as the first item
abbrev pub stage_opened : Stage → Option Stage
stage_opened Opening = Some Bounding
stage_opened Bounding = None
stage_opened Running = None

-- the stage after an item; none if the item isn't allowed at this stage
abbrev pub stage_after : Stage → Item → Option Stage
stage_after stage (starts settings) = stage_opened stage
stage_after stage (asks command) = stage_after_command stage (is_bound command)
stage_after stage (bad line) = None

-- what a line is at its place: `passes` if it is blank or a comment; `gives` its item and the stage after it; `breaks` if it is bad
pub data Verdict : Type 0 where
  passes : Verdict
  gives : Item → Stage → Verdict
  breaks : Verdict

-- the verdict on an item, computed from the stage after it; `breaks` if that is none, since the item isn't allowed then
abbrev pub gives_or_breaks : Item → Option Stage → Verdict
gives_or_breaks i None = breaks
gives_or_breaks i (Some next) = gives i next

-- the verdict on a line of this meaning, at this stage of the script
abbrev pub verdict : Stage → LineMeaning → Verdict
verdict stage nothing = passes
verdict stage wrong = breaks
verdict stage (item i) = gives_or_breaks i (stage_after stage i)

-- the items from line n + 1 on, computed from the verdict on that line at this stage; `after` has the items of the later lines, as a function of the stage
-- after that line
abbrev pub items_by : Verdict → ℕ → Stage → (Stage → List Item) → List Item
items_by passes n stage after = after stage
items_by (gives i next) n stage after = i ∷ after next
items_by breaks n stage after = bad (n + 1) ∷ []

-- the items of these lines, if n lines came before them and led to this stage
abbrev pub items_at : List (List ℕ) → ℕ → Stage → List Item
items_at [] n stage = []
items_at (line ∷ rest) n stage = items_by (verdict stage (line_says line)) n stage (items_at rest (n + 1))

-- the items of these bytes; `ended` is whether the input ends after them
abbrev pub items : List ℕ → Bool → List Item
items bytes ended = items_at (lines bytes ended) 0 Opening

-- the items `front` are a prefix of the items `all`
abbrev pub AreFirstOf : List Item → List Item → Type 0
AreFirstOf front all = (rest : List Item) × (all ≡ front ++ rest)
