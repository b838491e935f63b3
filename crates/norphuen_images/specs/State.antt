-- The state of an open heap whose objects have ids, that of a run: a heap and the names of its objects; and what holds of every such heap (`IsNamed`).
use Rattle.std.specs.Prelude.{◌≡◌, refl}
use Rattle.std.specs.Coded.{Coded, code_by, coded×}
use Rattle.cf_base.specs.Settings.{Profile}
use Rattle.cf_base.specs.declared.kind.Kind.TheVariants.{Moving}
use Rattle.cf_model.specs.State.{HeapState, state_code}
use Rattle.id_table.specs.Ids.{AreWithin}
use Rattle.id_table.specs.Sessions.{IsGoing, RunState, SessionState, session_code}

-- What holds of every such heap with the settings p: it is open and of kind Moving, it keeps the rules of managers, and each object has one id, of 16 bits.
pub record IsNamed (p : Profile) (s : RunState) : Type 0 where
  pub going : IsGoing s
  pub kind : s.heap.kind ≡ Moving
  pub within : AreWithin s.session.ids
  pub profile : s.heap.profile ≡ p

-- the state as a pair, which the trait `Model` needs
abbrev pub run_code : Coded RunState
run_code = code_by (SessionState × HeapState) (coded× session_code state_code) (λ s. (s.session, s.heap)) (λ q. record { session = q.0; heap = q.1 }) (λ _. refl)
