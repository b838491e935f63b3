-- When a command or an item is valid, as every item is that the grammar of scripts (`items`) finds. And `IsRunOf`: a run that is in progress, or
-- hasn't begun.
use Rattle.std.specs.Prelude.{◌≡◌, ⊤, List, [], ◌∷◌, Option, Some, None}
use Rattle.run_model.specs.Terms.{AreBytes, AreInRange, asks, bad, Command, IsGoing, IsWellFormed, Item, Kind, RunState, starts, Write}

-- if the command is a write, each of its numbers is a byte: below 256
abbrev pub HasBytes : Command → Type 0
HasBytes (Write id at bytes) = AreBytes bytes
HasBytes command = ⊤

-- the command is valid: its numbers are in range, and a write writes numbers that are bytes (`HasBytes`)
pub record IsValidCommand (command : Command) : Type 0 where
  pub formed : IsWellFormed command
  pub bytes : HasBytes command

-- the item is valid: a `heap` line has settings in range, a command is valid; nothing is required of a bad line
abbrev pub IsValidItem : Item → Type 0
IsValidItem (starts p) = AreInRange p
IsValidItem (asks command) = IsValidCommand command
IsValidItem (bad n) = ⊤

-- each item is valid
abbrev pub AreValidItems : List Item → Type 0
AreValidItems [] = ⊤
AreValidItems (item ∷ rest) = IsValidItem item × AreValidItems rest

-- the state is that of a run in progress on a manager of this kind, or there is none, since the run hasn't begun
abbrev pub IsRunOf : Kind → Option RunState → Type 0
IsRunOf kind None = ⊤
IsRunOf kind (Some s) = (s.heap.kind ≡ kind) × IsGoing s
