-- The description of the arguments of `cf_tool` by which the crate `clap` reads them (a `clap` command): a rule for each argument, with the values that it
-- may have and its default.
use Rattle.std.specs.Prelude.{◌≡◌, List, [], ◌∷◌, Some, map, codes}
use Rattle.std.specs.Borrow.{Bor}
use Rattle.cf_base.specs.Kind.{kind_name}
use Rattle.cf_base.specs.declared.kind.Kind.TheVariants.{Moving, NonMoving, Tlsf, HalfFit}
use Rattle.clap.specs.Words.{App, Rule, Text, new_app, new_rule, with_rule}
use Rattle.clap.specs.declared.builder.value_parser.ValueParser.{ValueParser}
use Rattle.clap.specs.declared.builder.value_parser.ValueParser.TheVariants.{Names, Unsigned}
use Rattle.top_call.specs.declared.choice.Mode.{Mode}
use Rattle.top_call.specs.declared.choice.Mode.TheVariants.{Run, Compare, Bench, Large, Save, Load, Slice, Quota}

-- a borrowed list of borrowed names, as `clap` keeps it
abbrev pub NameList : Type 0
NameList = Bor (List (Bor Text))

-- the names in a list that `clap` keeps, as texts
abbrev pub texts_of : NameList → List Text
texts_of names = map (λ name. name.now) names.now

-- the name of a mode on the command line
abbrev pub mode_name : Mode → Text
mode_name Run = codes "run"
mode_name Compare = codes "compare"
mode_name Bench = codes "bench"
mode_name Large = codes "large"
mode_name Save = codes "save"
mode_name Load = codes "load"
mode_name Slice = codes "slice"
mode_name Quota = codes "quota"

-- the names of all modes on the command line
abbrev pub mode_names : List Text
mode_names = map mode_name (Run ∷ Compare ∷ Bench ∷ Large ∷ Save ∷ Load ∷ Slice ∷ Quota ∷ [])

-- the names of all kinds of managers on the command line
abbrev pub manager_names : List Text
manager_names = kind_name Moving ∷ kind_name NonMoving ∷ kind_name Tlsf ∷ kind_name HalfFit ∷ []

-- the argument MODE: one of these names, by default `run`
abbrev pub mode_rule : NameList → Rule
mode_rule names = record (new_rule (codes "mode")) { parser = Some (Names names); defaults = mode_name Run ∷ [] }

-- the option with this name: `parser` reads its value, and `given` is its default
abbrev pub option_rule : Text → ValueParser → Text → Rule
option_rule name parser given = record (new_rule name) { long = Some name; parser = Some parser; defaults = given ∷ [] }

-- the option `--manager`: one of these names, by default `cf`
abbrev pub manager_rule : NameList → Rule
manager_rule names = option_rule (codes "manager") (Names names) (kind_name Moving)

-- the parser of a whole number up to 2^64 - 1
abbrev pub any_u64 : ValueParser
any_u64 = Unsigned 0 18446744073709551615

-- the option `--seed`: any number of 64 bits, by default 0
abbrev pub seed_rule : Rule
seed_rule = option_rule (codes "seed") any_u64 (codes "0")

-- the option `--count`: a whole number up to 1,000,000, by default 1000
abbrev pub count_rule : Rule
count_rule = option_rule (codes "count") (Unsigned 0 1000000) (codes "1000")

-- the parser of a whole number from 1 to 16,384
abbrev pub quantum_parser : ValueParser
quantum_parser = Unsigned 1 16384

-- the option `--quantum`: a whole number from 1 to 16,384, by default 16
abbrev pub quantum_rule : Rule
quantum_rule = option_rule (codes "quantum") quantum_parser (codes "16")

-- the command of `clap` with the five arguments of `cf_tool`; `modes` and `managers` are the borrowed lists of names that its rules keep
abbrev pub cf_app : NameList → NameList → App
cf_app modes managers =
    with_rule (with_rule (with_rule (with_rule (with_rule (new_app (codes "cf_tool")) (mode_rule modes)) (manager_rule managers)) seed_rule) count_rule)
    quantum_rule

-- `app` is `cf_app` for some borrowed lists with the names of the modes and of the managers. Which lists isn't said: a rule keeps the references themselves, and
-- the logic doesn't know the address of a static.
pub record IsCfApp (app : App) : Type 0 where
  pub modes : NameList
  pub managers : NameList
  pub mode_texts : texts_of modes ≡ mode_names
  pub manager_texts : texts_of managers ≡ manager_names
  pub app_is : app ≡ cf_app modes managers
