-- At whatever addresses the names of modes and kinds are, arguments are read alike (laws of `argument_laws.rt`); so they make at most one choice, and none if
-- they are refused, and `read_arguments` may return only that choice or the refusal, or `OutOfMemory`.
use Rattle.std.proofs.Common.{◌≡◌, ◌∙◌, ◌⊎◌, List, map, refl, sym, ap, ap₂, inl, inr}
use Rattle.std.specs.Prelude.{Result, Ok, Err}
use Rattle.clap.specs.Simple.{argument_words, built, names_of}
use Rattle.clap.specs.Walk.{nothing_held}
use Rattle.clap.specs.Words.{App, Text, fault_of, matches_of}
use Rattle.top_call.proofs.FaultAddresses.{faults-rebased}
use Rattle.top_call.proofs.RuleAddresses.{at_zero}
use Rattle.top_call.proofs.WalkAddresses.{rows-rebased}
use Rattle.top_call.specs.Choices.{AreAccepted, AreRefused, Chooses, ReadsAs, choice_of}
use Rattle.top_call.specs.Command.{IsCfApp, NameList, cf_app, manager_names, mode_names, texts_of}
use Rattle.top_call.specs.declared.choice.Choice.{Choice}
use Rattle.top_call.specs.declared.choice.ArgumentsFault.{ArgumentsFault}
use Rattle.top_call.specs.declared.choice.ArgumentsFault.TheVariants.{OutOfMemory, Refused}

abbrev names_at_zero : List Text → NameList
names_at_zero texts = record { ref_ptr = (0, 0); now = map at_zero texts }

abbrev pub app_at_zero : App
app_at_zero = cf_app (names_at_zero mode_names) (names_at_zero manager_names)

pub is_app_at_zero : IsCfApp app_at_zero
is_app_at_zero = record { modes = names_at_zero mode_names; managers = names_at_zero manager_names; mode_texts = refl; manager_texts = refl; app_is = refl }

faults_of_names : (modes managers : NameList) (words : List Text)
    → fault_of (cf_app (names_at_zero (texts_of modes)) (names_at_zero (texts_of managers))) words ≡ fault_of (cf_app modes managers) words
faults_of_names modes managers words = faults-rebased (built (cf_app modes managers)) nothing_held (argument_words (cf_app modes managers) words)

matches_of_names : (modes managers : NameList) (words : List Text)
    → matches_of (cf_app (names_at_zero (texts_of modes)) (names_at_zero (texts_of managers))) words ≡ matches_of (cf_app modes managers) words
matches_of_names modes managers words =
    rows-rebased (built (cf_app modes managers)).top.rules (names_of (built (cf_app modes managers))) (argument_words (cf_app modes managers) words)

faults_at_zero : (app : App) (words : List Text) → IsCfApp app → fault_of app words ≡ fault_of app_at_zero words
faults_at_zero app words h = ap (λ (a : App). fault_of a words) h.app_is ∙ sym (faults_of_names h.modes h.managers words)
    ∙ ap₂ (λ ms ns. fault_of (cf_app (names_at_zero ms) (names_at_zero ns)) words) h.mode_texts h.manager_texts

matches_at_zero : (app : App) (words : List Text) → IsCfApp app → matches_of app words ≡ matches_of app_at_zero words
matches_at_zero app words h = ap (λ (a : App). matches_of a words) h.app_is ∙ sym (matches_of_names h.modes h.managers words)
    ∙ ap₂ (λ ms ns. matches_of (cf_app (names_at_zero ms) (names_at_zero ns)) words) h.mode_texts h.manager_texts

pub same_faults : (a b : App) (words : List Text) → IsCfApp a → IsCfApp b → fault_of b words ≡ fault_of a words
same_faults a b words one two = faults_at_zero b words two ∙ sym (faults_at_zero a words one)

pub same_matches : (a b : App) (words : List Text) → IsCfApp a → IsCfApp b → matches_of b words ≡ matches_of a words
same_matches a b words one two = matches_at_zero b words two ∙ sym (matches_at_zero a words one)

pub not_accepted : (words : List Text) → AreRefused words → AreAccepted words → ⊥
not_accepted words refused accepted = refused.refused (same_faults accepted.app refused.app words accepted.is_app refused.is_app ∙ accepted.accepted)

pub chosen_are_accepted : (words : List Text) (choice : Choice) → Chooses words choice → AreAccepted words
chosen_are_accepted words choice chosen = record { app = chosen.app; is_app = chosen.is_app; accepted = chosen.accepted }

pub one_choice : (words : List Text) (one other : Choice) → Chooses words one → Chooses words other → other ≡ one
one_choice words one other a b = b.chosen ∙ ap choice_of (same_matches a.app b.app words a.is_app b.is_app) ∙ sym a.chosen

pub read_as_chosen : (words : List Text) (choice : Choice) (result : Result Choice ArgumentsFault) → Chooses words choice → ReadsAs words result
    → (result ≡ Ok choice) ⊎ (result ≡ Err OutOfMemory)
read_as_chosen words choice (Ok other) chosen read = inl (ap Ok (one_choice words choice other chosen read))
read_as_chosen words choice (Err Refused) chosen read = absurd (not_accepted words read (chosen_are_accepted words choice chosen))
read_as_chosen words choice (Err OutOfMemory) chosen read = inr refl

pub read_as_refused : (words : List Text) (result : Result Choice ArgumentsFault) → AreRefused words → ReadsAs words result
    → (result ≡ Err Refused) ⊎ (result ≡ Err OutOfMemory)
read_as_refused words (Ok choice) refused read = absurd (not_accepted words refused (chosen_are_accepted words choice read))
read_as_refused words (Err Refused) refused read = inl refl
read_as_refused words (Err OutOfMemory) refused read = inr refl
