-- For the laws that are examples of arguments (none, all options, `--help`, a number out of range, an unknown name): which choice they make, or that they
-- are refused, with the names of modes and kinds at address 0.
use Rattle.std.proofs.Common.{◌≡◌, List, [], ◌∷◌, refl, codes}
use Rattle.cf_base.specs.Kind.{kind_name}
use Rattle.cf_base.specs.declared.kind.Kind.{Kind}
use Rattle.cf_base.specs.declared.kind.Kind.TheVariants.{Moving, NonMoving, Tlsf, HalfFit}
use Rattle.clap.specs.Words.{Text, fault_of, matches_of}
use Rattle.clap.specs.declared.error.kind.ErrorKind.TheVariants as kind
use Rattle.clap.proofs.OnLiterals.{clap_on_literals}
use Rattle.top_call.proofs.ReadAlike.{app_at_zero, is_app_at_zero}
use Rattle.top_call.specs.Choices.{AreRefused, Chooses, choice_of, chosen}
use Rattle.top_call.specs.Command.{mode_name}
use Rattle.top_call.specs.declared.choice.Choice.{Choice}
use Rattle.top_call.specs.declared.choice.Mode.{Mode}
use Rattle.top_call.specs.declared.choice.Mode.TheVariants.{Run, Compare, Bench, Large, Save, Load, Slice, Quota}

pub no_words : (name : Text) → Chooses (name ∷ []) (chosen Run Moving 0 1000 16)
unfolding clap_on_literals
no_words name = record { app = app_at_zero; is_app = is_app_at_zero; accepted = refl; chosen = refl }

abbrev said : Text → Mode → Kind → List Text
said name mode kind = name ∷ mode_name mode ∷ codes "--manager" ∷ kind_name kind ∷ codes "--seed" ∷ codes "5" ∷ codes "--count=7" ∷ codes "--quantum=8" ∷ []

as_chosen : (words : List Text) (choice : Choice) → fault_of app_at_zero words ≡ [] → choice ≡ choice_of (matches_of app_at_zero words) → Chooses words choice
as_chosen words choice accepted is = record { app = app_at_zero; is_app = is_app_at_zero; accepted = accepted; chosen = is }

pub said_words : (name : Text) (mode : Mode) (kind : Kind) → Chooses (said name mode kind) (chosen mode kind 5 7 8)
unfolding clap_on_literals
said_words name Run Moving = as_chosen (said name Run Moving) (chosen Run Moving 5 7 8) refl refl
said_words name Run NonMoving = as_chosen (said name Run NonMoving) (chosen Run NonMoving 5 7 8) refl refl
said_words name Run Tlsf = as_chosen (said name Run Tlsf) (chosen Run Tlsf 5 7 8) refl refl
said_words name Run HalfFit = as_chosen (said name Run HalfFit) (chosen Run HalfFit 5 7 8) refl refl
said_words name Compare Moving = as_chosen (said name Compare Moving) (chosen Compare Moving 5 7 8) refl refl
said_words name Compare NonMoving = as_chosen (said name Compare NonMoving) (chosen Compare NonMoving 5 7 8) refl refl
said_words name Compare Tlsf = as_chosen (said name Compare Tlsf) (chosen Compare Tlsf 5 7 8) refl refl
said_words name Compare HalfFit = as_chosen (said name Compare HalfFit) (chosen Compare HalfFit 5 7 8) refl refl
said_words name Bench Moving = as_chosen (said name Bench Moving) (chosen Bench Moving 5 7 8) refl refl
said_words name Bench NonMoving = as_chosen (said name Bench NonMoving) (chosen Bench NonMoving 5 7 8) refl refl
said_words name Bench Tlsf = as_chosen (said name Bench Tlsf) (chosen Bench Tlsf 5 7 8) refl refl
said_words name Bench HalfFit = as_chosen (said name Bench HalfFit) (chosen Bench HalfFit 5 7 8) refl refl
said_words name Large Moving = as_chosen (said name Large Moving) (chosen Large Moving 5 7 8) refl refl
said_words name Large NonMoving = as_chosen (said name Large NonMoving) (chosen Large NonMoving 5 7 8) refl refl
said_words name Large Tlsf = as_chosen (said name Large Tlsf) (chosen Large Tlsf 5 7 8) refl refl
said_words name Large HalfFit = as_chosen (said name Large HalfFit) (chosen Large HalfFit 5 7 8) refl refl
said_words name Save Moving = as_chosen (said name Save Moving) (chosen Save Moving 5 7 8) refl refl
said_words name Save NonMoving = as_chosen (said name Save NonMoving) (chosen Save NonMoving 5 7 8) refl refl
said_words name Save Tlsf = as_chosen (said name Save Tlsf) (chosen Save Tlsf 5 7 8) refl refl
said_words name Save HalfFit = as_chosen (said name Save HalfFit) (chosen Save HalfFit 5 7 8) refl refl
said_words name Load Moving = as_chosen (said name Load Moving) (chosen Load Moving 5 7 8) refl refl
said_words name Load NonMoving = as_chosen (said name Load NonMoving) (chosen Load NonMoving 5 7 8) refl refl
said_words name Load Tlsf = as_chosen (said name Load Tlsf) (chosen Load Tlsf 5 7 8) refl refl
said_words name Load HalfFit = as_chosen (said name Load HalfFit) (chosen Load HalfFit 5 7 8) refl refl
said_words name Slice Moving = as_chosen (said name Slice Moving) (chosen Slice Moving 5 7 8) refl refl
said_words name Slice NonMoving = as_chosen (said name Slice NonMoving) (chosen Slice NonMoving 5 7 8) refl refl
said_words name Slice Tlsf = as_chosen (said name Slice Tlsf) (chosen Slice Tlsf 5 7 8) refl refl
said_words name Slice HalfFit = as_chosen (said name Slice HalfFit) (chosen Slice HalfFit 5 7 8) refl refl
said_words name Quota Moving = as_chosen (said name Quota Moving) (chosen Quota Moving 5 7 8) refl refl
said_words name Quota NonMoving = as_chosen (said name Quota NonMoving) (chosen Quota NonMoving 5 7 8) refl refl
said_words name Quota Tlsf = as_chosen (said name Quota Tlsf) (chosen Quota Tlsf 5 7 8) refl refl
said_words name Quota HalfFit = as_chosen (said name Quota HalfFit) (chosen Quota HalfFit 5 7 8) refl refl

pub help_asked : (name : Text) (rest : List Text) → AreRefused (name ∷ codes "--help" ∷ rest)
unfolding clap_on_literals
help_asked name rest = record { app = app_at_zero; is_app = is_app_at_zero; refused = λ e. let bad : kind.DisplayHelp ∷ [] ≡ [] = e in cc }

pub count_too_large : (name : Text) → AreRefused (name ∷ codes "--count=1000001" ∷ [])
unfolding clap_on_literals
count_too_large name = record { app = app_at_zero; is_app = is_app_at_zero; refused = λ e. let bad : kind.ValueValidation ∷ [] ≡ [] = e in cc }

pub no_quantum : (name : Text) → AreRefused (name ∷ codes "--quantum=0" ∷ [])
unfolding clap_on_literals
no_quantum name = record { app = app_at_zero; is_app = is_app_at_zero; refused = λ e. let bad : kind.ValueValidation ∷ [] ≡ [] = e in cc }

pub quantum_too_far : (name : Text) → AreRefused (name ∷ codes "--quantum=16385" ∷ [])
unfolding clap_on_literals
quantum_too_far name = record { app = app_at_zero; is_app = is_app_at_zero; refused = λ e. let bad : kind.ValueValidation ∷ [] ≡ [] = e in cc }

pub other_mode : (name : Text) → AreRefused (name ∷ codes "Run" ∷ [])
unfolding clap_on_literals
other_mode name = record { app = app_at_zero; is_app = is_app_at_zero; refused = λ e. let bad : kind.InvalidValue ∷ [] ≡ [] = e in cc }

pub other_manager : (name : Text) → AreRefused (name ∷ codes "--manager" ∷ codes "halt" ∷ [])
unfolding clap_on_literals
other_manager name = record { app = app_at_zero; is_app = is_app_at_zero; refused = λ e. let bad : kind.InvalidValue ∷ [] ≡ [] = e in cc }
