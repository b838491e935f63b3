-- What contracts see of a reader: what it was fed and keeps, how many bytes it takes, which items it has left, what each result says of them, and the first
-- line of the bytes that it keeps.
use Rattle.std.specs.Prelude.{◌≡◌, ◌<◌, ◌≤◌, ◌+◌, ◌-◌, ◌==◌, ◌||◌, ◌⊎◌, ◌++◌, ℕ, Bool, true, false, List, [], ◌∷◌, Option, Some, None, is_some, length, take}
use Rattle.std.specs.Prelude.{drop, min, if◌then◌else◌}
use Rattle.std.specs.List.{list_any}
use Rattle.cf_base.specs.Settings.{profile_of}
use Rattle.cf_base.specs.declared.settings.Settings.{Settings}
use Rattle.script_reader.specs.Commands.{IsWellFormed}
use Rattle.script_reader.specs.Items.{Item, asks, bad, starts, items_at, is_bound, stage_after_command}
use Rattle.script_reader.specs.Lines.{LONGEST, is_last_line, lines}
use Rattle.script_reader.specs.declared.command.Command.{Command}
use Rattle.script_reader.specs.declared.next.Next.{Next}
use Rattle.script_reader.specs.declared.next.Next.TheVariants as answer
use Rattle.script_reader.specs.declared.stage.Stage.{Stage}
use Rattle.script_reader.specs.declared.stage.Stage.TheVariants.{Opening, Bounding}

-- The state of a reader: the bytes that it keeps, fed but not read; the number of lines that it passed, and the stage that they led to; whether the end was
-- announced; the number of the bad line, if it was returned; and the number of all bytes fed.
pub record Reading : Type 0 where
  pub kept : List ℕ
  pub passed : ℕ
  pub stage : Stage
  pub ended : Bool
  pub stopped : Option ℕ
  pub fed : ℕ

-- a reader that was fed nothing
abbrev pub fresh : Reading
fresh = record { kept = []; passed = 0; stage = Opening; ended = false; stopped = None; fed = 0 }

-- the most bytes that a reader keeps: they were fed, but are not read yet
abbrev pub MOST_KEPT : ℕ
MOST_KEPT = 9000

-- the most bytes that a reader takes in all
abbrev pub MOST_FED : ℕ
MOST_FED = 4294967295

-- how many bytes of a chunk `feed` takes: the length of the longest prefix after which neither `MOST_KEPT` nor `MOST_FED` is passed
abbrev pub taken : Reading → List ℕ → ℕ
taken r chunk = min (length chunk) (min (MOST_KEPT - length r.kept) (MOST_FED - r.fed))

-- the reading after these bytes were fed
abbrev pub fed_with : Reading → List ℕ → Reading
fed_with r bytes = record r { kept = r.kept ++ bytes; fed = r.fed + length bytes }

-- the bytes still to be read: those kept, and then `more` unless the end was announced
abbrev pub to_come : Bool → List ℕ → List ℕ → List ℕ
to_come ended kept more = if ended then kept else kept ++ more

-- the items that reader r has left if `more` is fed next and then the input ends (`ended`) or not; none after a bad line
abbrev pub items_left : Reading → List ℕ → Bool → List Item
items_left r more ended = if is_some r.stopped then []
    else items_at (lines (to_come r.ended r.kept more) (r.ended || ended)) r.passed r.stage

-- whether a line feed is among these bytes
abbrev pub holds_line_feed : List ℕ → Bool
holds_line_feed = list_any (λ x. x == 10)

-- From `old`, not stopped, to `new` the reader read a prefix of the kept bytes, which holds the items `first`, and counted its lines. Nothing was fed, and no
-- end announced. Whatever is fed later, the items left in `old` are `first` and then those left in `new`.
pub record Reads (old : Reading) (first : List Item) (new : Reading) : Type 0 where
  pub going : old.stopped ≡ None
  pub front : List ℕ
  pub kept : old.kept ≡ front ++ new.kept
  pub counted : new.passed + length (lines new.kept true) ≡ old.passed + length (lines old.kept true)
  pub same_end : new.ended ≡ old.ended
  pub same_fed : new.fed ≡ old.fed
  pub left : (more : List ℕ) (ended : Bool) → items_left old more ended ≡ first ++ items_left new more ended

-- from `old` to `new` the reader passed only blank lines and comments, or nothing
pub record PassesOver (old new : Reading) : Type 0 where
  pub reads : Reads old [] new
  pub still : new.stopped ≡ None
  pub same_stage : new.stage ≡ old.stage

-- the reader returned the `heap` line with these settings, and the stage leads from `Opening` to `Bounding`; fewer bytes are kept
pub record AnswersStart (old : Reading) (settings : Settings) (new : Reading) : Type 0 where
  pub reads : Reads old (starts (profile_of settings) ∷ []) new
  pub still : new.stopped ≡ None
  pub shorter : length new.kept < length old.kept
  pub opening : old.stage ≡ Opening
  pub bounding : new.stage ≡ Bounding

-- the reader returned this command, whose fields are in their ranges, and which is allowed at the stage of `old`; fewer bytes are kept
pub record AnswersCommand (old : Reading) (command : Command) (new : Reading) : Type 0 where
  pub reads : Reads old (asks command ∷ []) new
  pub still : new.stopped ≡ None
  pub shorter : length new.kept < length old.kept
  pub formed : IsWellFormed command
  pub leads : stage_after_command old.stage (is_bound command) ≡ Some new.stage

-- the reader returned `NeedMore`: the kept bytes held no whole line with an item, and the end wasn't announced; at most `LONGEST` bytes, with no line feed,
-- are still kept
pub record NeedsMore (old new : Reading) : Type 0 where
  pub passes : PassesOver old new
  pub open_end : old.ended ≡ false
  pub none_left : items_left old [] false ≡ []
  pub few : length new.kept ≤ LONGEST
  pub no_feed : holds_line_feed new.kept ≡ false

-- the reader returned `End`: no item was left, and the end was announced; no byte is kept
pub record HasEnded (old new : Reading) : Type 0 where
  pub passes : PassesOver old new
  pub shown : old.ended ≡ true
  pub none_left : items_left old [] true ≡ []
  pub empty : new.kept ≡ []

-- the reader returned `Bad`: the next line that is neither blank nor a comment is bad, it has the number `line`, and the reader reads nothing after it
pub record StopsAt (old : Reading) (line : ℕ) (new : Reading) : Type 0 where
  pub reads : Reads old (bad line ∷ []) new
  pub stopped : new.stopped ≡ Some line
  pub number : new.passed ≡ line
  pub same_stage : new.stage ≡ old.stage

-- the reader returns `Bad` at a bad line, and the same `Bad` at every call after it
abbrev pub AnswersBad : Reading → Option ℕ → ℕ → Reading → Type 0
AnswersBad old None line new = StopsAt old line new
AnswersBad old (Some before) line new = (line ≡ before) × (new ≡ old)

-- what each result of the reader means for the items left, whatever bytes are fed later
abbrev pub Answers : Reading → Next → Reading → Type 0
Answers old (answer.Start settings) new = AnswersStart old settings new
Answers old (answer.Command command) new = AnswersCommand old command new
Answers old answer.NeedMore new = NeedsMore old new
Answers old (answer.Bad line) new = AnswersBad old old.stopped line new
Answers old answer.End new = HasEnded old new

-- The first line of the kept bytes has `len` bytes, and the next line starts at byte `next`: after the line feed; or, if the kept bytes hold no line feed but
-- count as a line, at their end.
pub record IsFirstLine (kept : List ℕ) (ended : Bool) (len next : ℕ) : Type 0 where
  pub some : 1 ≤ next
  pub within : next ≤ length kept
  pub inside : len ≤ next
  pub cut : ((kept ≡ take len kept ++ (10 ∷ drop next kept)) × (holds_line_feed (take len kept) ≡ false))
      ⊎ ((len ≡ length kept) × (next ≡ length kept) × (holds_line_feed kept ≡ false) × (is_last_line ended kept ≡ true))

-- the kept bytes hold no line yet
abbrev pub HasNoLine : List ℕ → Bool → Type 0
HasNoLine kept ended = (holds_line_feed kept ≡ false) × (is_last_line ended kept ≡ false)
