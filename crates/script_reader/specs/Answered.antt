-- What the code found in a line, as the line's meaning: blank or a comment, not in the grammar, or an item; whether a command's fields are in range; the next
-- line with an item, and the stage of the script and the reading after a line. No public clause cites this module.
use Rattle.std.specs.Prelude.{◌≡◌, ◌+◌, ℕ, Bool, true, false, Option, Some, None, drop, take}
use Rattle.cf_base.specs.Settings.{profile_of}
use Rattle.script_reader.specs.Commands.{IsWellFormed}
use Rattle.script_reader.specs.Items.{Item, LineMeaning, asks, item, item_or_wrong, line_says, nothing, stage_after, starts, wrong}
use Rattle.script_reader.specs.Reading.{IsFirstLine, Reading}
use Rattle.script_reader.specs.declared.next.Next.{Next}
use Rattle.script_reader.specs.declared.next.Next.TheVariants as next
use Rattle.script_reader.specs.declared.stage.Stage.{Stage}

-- x if the argument before it is true, else none
abbrev pub some_if : {A : Type 0} → Bool → A → Option A
some_if true x = Some x
some_if false x = None

-- the item in a result of the reader that is a `heap` line or a command; none in `NeedMore`, `Bad` and `End`
abbrev pub item_answered : Next → Option Item
item_answered (next.Start settings) = Some (starts (profile_of settings))
item_answered (next.Command command) = Some (asks command)
item_answered _ = None

-- if the result of the reader is a command, its fields are in the ranges of the grammar
abbrev pub IsInRange : Next → Type 0
IsInRange (next.Command command) = IsWellFormed command
IsInRange _ = Unit {0}

-- the meaning of a line, computed from what the code found: whether the line is in the grammar, and if it is, the reader's result n, which has the item
abbrev pub saying_if : Bool → Next → LineMeaning
saying_if true n = item_or_wrong (item_answered n)
saying_if false n = wrong

-- whether a line of this meaning is blank or a comment
abbrev pub is_blank_or_comment : LineMeaning → Bool
is_blank_or_comment nothing = true
is_blank_or_comment wrong = false
is_blank_or_comment (item i) = false

-- the stage after a line of this meaning; none if the grammar doesn't allow such a line at this stage
abbrev pub stage_said : Stage → LineMeaning → Option Stage
stage_said stage nothing = Some stage
stage_said stage wrong = None
stage_said stage (item i) = stage_after stage i

-- the reading `old` after its first line, of `next` bytes with the line feed, was passed: the line is kept no longer and is counted; the stage stays
abbrev pub line_passed : Reading → ℕ → Reading
line_passed old next = record old { kept = drop next old.kept; passed = old.passed + 1 }

-- the first line that r keeps is neither blank nor a comment; it has `len` bytes without its line feed, and the next line starts at byte `next`
pub record IsNextLine (r : Reading) (len next : ℕ) : Type 0 where
  pub first : IsFirstLine r.kept r.ended len next
  pub says : is_blank_or_comment (line_says (take len r.kept)) ≡ false
