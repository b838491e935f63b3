-- Which choice the arguments of the command line make, when they are refused, and what `read_arguments` may return for them, by the definitions of the crate
-- `clap`. In this file `words` are the arguments; the first is the program's name. For a value that "never occurs" the function returns a default: the command
-- of `clap` (`cf_command`) refuses such a value, and an option that is not named has its own default.
use Rattle.std.specs.Prelude.{◌≡◌, ◌≢◌, ⊤, ℕ, List, [], Option, Some, None, Result, Ok, Err, codes, false, if◌then◌else◌}
use Rattle.std.specs.Str.{bytes_eq}
use Rattle.std.specs.Str.Parse.{digits_value, without_leading_plus}
use Rattle.cf_base.specs.Kind.{kind_name}
use Rattle.cf_base.specs.declared.kind.Kind.{Kind}
use Rattle.cf_base.specs.declared.kind.Kind.TheVariants.{Moving, NonMoving, Tlsf, HalfFit}
use Rattle.clap.specs.Words.{App, Row, Text, first_of, one_of, fault_of, matches_of}
use Rattle.clap.specs.ValueTests.{accepts}
use Rattle.top_call.specs.Command.{IsCfApp, any_u64, mode_name, quantum_parser}
use Rattle.top_call.specs.declared.choice.Choice.{Choice}
use Rattle.top_call.specs.declared.choice.Mode.{Mode}
use Rattle.top_call.specs.declared.choice.Mode.TheVariants.{Run, Compare, Bench, Large, Save, Load, Slice, Quota}
use Rattle.top_call.specs.declared.choice.ArgumentsFault.{ArgumentsFault}
use Rattle.top_call.specs.declared.choice.ArgumentsFault.TheVariants.{Refused, OutOfMemory}

-- the mode with this name; `Run` for any other name or none, which never occurs
abbrev pub mode_named : Option Text → Mode
mode_named None = Run
mode_named (Some name) = if bytes_eq name (mode_name Compare) then Compare
    else (if bytes_eq name (mode_name Bench) then Bench
    else (if bytes_eq name (mode_name Large) then Large
    else (if bytes_eq name (mode_name Save) then Save
    else (if bytes_eq name (mode_name Load) then Load
    else (if bytes_eq name (mode_name Slice) then Slice else (if bytes_eq name (mode_name Quota) then Quota else Run))))))

-- the kind with this name; `Moving` for any other name or none, which never occurs
abbrev pub kind_named : Option Text → Kind
kind_named None = Moving
kind_named (Some name) = if bytes_eq name (kind_name NonMoving) then NonMoving
    else (if bytes_eq name (kind_name Tlsf) then Tlsf else (if bytes_eq name (kind_name HalfFit) then HalfFit else Moving))

-- the number that a text spells, as `clap` reads a number of 64 bits; 0 for any other text or none, which never occurs
abbrev pub u64_in : Option Text → ℕ
u64_in None = 0
u64_in (Some text) = if accepts false any_u64 text then digits_value 10 (without_leading_plus text) else 0

-- the quantum that a text spells, from 1 to 16,384; 16 for any other text or none, which never occurs
abbrev pub quantum_in : Option Text → ℕ
quantum_in None = 16
quantum_in (Some text) = if accepts false quantum_parser text then digits_value 10 (without_leading_plus text) else 16

-- the choice that the rows make: what `clap` found, a row for each argument with its name and its texts
abbrev pub choice_of : List Row → Choice
choice_of rows = record {
  mode = mode_named (first_of (codes "mode") rows);
  kind = kind_named (first_of (codes "manager") rows);
  seed = u64_in (one_of (codes "seed") rows);
  count = u64_in (one_of (codes "count") rows);
  quantum = quantum_in (one_of (codes "quantum") rows);
}

-- The command `app` finds no fault in the arguments. Here and below `app` is any command of `clap` with the arguments of this crate (`IsCfApp`). Such commands
-- differ only in the addresses of the names, so all find the same faults and values.
pub record AreAccepted (words : List Text) : Type 0 where
  pub app : App
  pub is_app : IsCfApp app
  pub accepted : fault_of app words ≡ []

-- the command finds no fault in the arguments, and they make this choice
pub record Chooses (words : List Text) (choice : Choice) : Type 0 where
  pub app : App
  pub is_app : IsCfApp app
  pub accepted : fault_of app words ≡ []
  pub chosen : choice ≡ choice_of (matches_of app words)

-- the command finds a fault in the arguments
pub record AreRefused (words : List Text) : Type 0 where
  pub app : App
  pub is_app : IsCfApp app
  pub refused : fault_of app words ≢ []

-- what `read_arguments` may return for these arguments: the choice that they make; `Refused` if they are refused; or, for any arguments, `OutOfMemory`
abbrev pub ReadsAs : List Text → Result Choice ArgumentsFault → Type 0
ReadsAs words (Ok choice) = Chooses words choice
ReadsAs words (Err Refused) = AreRefused words
ReadsAs words (Err OutOfMemory) = ⊤

-- the choice with this mode, kind, seed, count and quantum
abbrev pub chosen : Mode → Kind → ℕ → ℕ → ℕ → Choice
chosen mode kind seed count quantum = record { mode = mode; kind = kind; seed = seed; count = count; quantum = quantum }
