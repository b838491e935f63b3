-- The semantics of `WithSettings`, a mode handler around another one: those of the inner handler, with the settings of the `heap` line kept in the state.
-- Also when these are the settings of a run's manager (`GoesWith`).
use Rattle.std.specs.Prelude.{◌≡◌, ⊤, Option, Some, None, option_map}
use Rattle.run_model.specs.Terms.{IsGoing, profile_of, RunState}
use Rattle.cf_base.specs.declared.settings.Settings.{Settings}
use Rattle.script_loop.specs.Semantics.{Semantics}

-- a state of the inner handler, and the settings of the `heap` line; none before that line
pub record Settled (S : Type 0) : Type 0 where
  pub state : S
  pub settings : Option Settings

-- the record `Settled` of a state and the settings of the `heap` line
abbrev pub settled : {S : Type 0} → S → Option Settings → Settled S
settled state settings = record { state = state; settings = settings }

-- The semantics of `WithSettings` around an inner handler with the semantics `m`: it answers as the inner handler does. The `heap` line sets the kept settings,
-- and no command changes them.
abbrev pub with_settings : {S P : Type 0} → Semantics S P → Semantics (Settled S) P
with_settings m = record {
  plan = λ s. m.plan s.state;
  is_fresh = λ s. m.is_fresh s.state × (s.settings ≡ None);
  is_going = λ s. m.is_going s.state;
  begins = λ plan p reply s. m.begins plan p reply s.state × (option_map profile_of s.settings ≡ Some p);
  turns = λ old command reply new. m.turns old.state command reply new.state × (new.settings ≡ old.settings);
  turns_in_part = λ old command out new. m.turns_in_part old.state command out new.state × (new.settings ≡ old.settings);
  lacks = λ old new. m.lacks old.state new.state;
}

-- if the run has begun, it is in progress, and its manager has the settings that are kept
abbrev pub GoesWith : Option (Settled RunState) → Type 0
GoesWith None = ⊤
GoesWith (Some s) = IsGoing s.state × (option_map profile_of s.settings ≡ Some s.state.heap.profile)
