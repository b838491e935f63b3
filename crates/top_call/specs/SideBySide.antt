-- Managers side by side, each with its session: how they begin, do one command, and stop if the sink cuts a reply or an allocation fails. The file ends with
-- the mode handler's relations (`many_managers`).
use Rattle.std.specs.Prelude.{◌≡◌, ◌++◌, ◌⊎◌, ℕ, Bool, List, [], ◌∷◌, codes, is_some, length, map}
use Rattle.std.specs.List.{All}
use Rattle.run_model.specs.Terms.{Command, fresh_session, HeapState, IsGoing, Kind, led, Profile, Reply, RunState, SessionState}
use Rattle.cf_base.specs.Kind.{kind_name}
use Rattle.cf_model.specs.Loops.{Opens, Stops}
use Rattle.cf_model.specs.Steps.{IsClosed}
use Rattle.cf_base.specs.declared.settings.Settings.{Settings}
use Rattle.cf_session.specs.Apply.{run_at}
use Rattle.run_model.specs.Runs.{BeginsOne, IsCommandStep}
use Rattle.script_loop.specs.Semantics.{Semantics}

-- a list of managers, and a list with a session for each, in the same order
pub record SideBySide : Type 0 where
  pub sessions : List SessionState
  pub heaps : List HeapState

-- these managers, each with the session at the same index
abbrev pub side_by_side_at : List SessionState → List HeapState → SideBySide
side_by_side_at sessions heaps = record { sessions = sessions; heaps = heaps }

-- the runs of a list of sessions on a list of managers: for each index the run of the session on the manager with this index
abbrev pub zipped : List SessionState → List HeapState → List RunState
zipped [] heaps = []
zipped (s ∷ ss) [] = []
zipped (s ∷ ss) (h ∷ hs) = run_at s h ∷ zipped ss hs

-- the run of each manager: the manager with its session
abbrev pub runs_of : SideBySide → List RunState
runs_of m = zipped m.sessions m.heaps

-- the kind of each manager
abbrev pub kinds_of : SideBySide → List Kind
kinds_of m = map (λ h. h.kind) m.heaps

-- for each manager, whether it promises an order
abbrev pub promises_of : SideBySide → List Bool
promises_of m = map (λ h. is_some h.order) m.heaps

-- there are `count` sessions, and all are new
pub record AreFresh (count : ℕ) (sessions : List SessionState) : Type 0 where
  pub many : length sessions ≡ count
  pub fresh : All (λ s. s ≡ fresh_session) sessions

-- managers, each with a new session
abbrev pub fresh_side_by_side : List HeapState → SideBySide
fresh_side_by_side heaps = side_by_side_at (map (λ h. fresh_session) heaps) heaps

-- each manager has a session, and it is new
pub record IsEachFresh (m : SideBySide) : Type 0 where
  pub count : length m.sessions ≡ length m.heaps
  pub fresh : All (λ s. s ≡ fresh_session) m.sessions

-- each manager has a session, and the run of each is in progress
pub record IsEachGoing (m : SideBySide) : Type 0 where
  pub count : length m.sessions ≡ length m.heaps
  pub going : All IsGoing (runs_of m)

-- the lead of each line of a manager's reply: the name of its kind, and a space
abbrev pub lead_of : Kind → List ℕ
lead_of kind = kind_name kind ++ 32 ∷ []

-- the reply with the name of the kind and a space before each line
abbrev pub named_lines : Kind → Reply → Reply
named_lines kind reply = map (λ line. lead_of kind ++ line) reply

-- the reply to the `heap` line by managers of these kinds: `ok` from each
abbrev pub opened_reply : List Kind → Reply
opened_reply kinds = map (λ kind. lead_of kind ++ codes "ok") kinds

-- The `heap` line with the settings p opens managers of these kinds: each begins a run with a reply, and `reply` is all these replies, each line after the name
-- of the kind. `news` are the runs.
abbrev pub EachBegins : List Kind → Profile → Reply → List RunState → Type 0
EachBegins [] p reply news = (reply ≡ []) × (news ≡ [])
EachBegins (kind ∷ kinds) p reply news = (first : Reply) × (more : Reply) × (new : RunState) × (rest : List RunState)
    × BeginsOne kind p first new × EachBegins kinds p more rest × (reply ≡ named_lines kind first ++ more) × (news ≡ new ∷ rest)

-- Each manager does the command c, in order: the runs `olds` become `news`, and `reply` is all their replies, each line after the name of the kind.
abbrev pub EachTurn : List RunState → Command → Reply → List RunState → Type 0
EachTurn [] c reply news = (reply ≡ []) × (news ≡ [])
EachTurn (old ∷ olds) c reply news = (first : Reply) × (more : Reply) × (new : RunState) × (rest : List RunState)
    × IsCommandStep old c first new × EachTurn olds c more rest × (reply ≡ named_lines old.heap.kind first ++ more) × (news ≡ new ∷ rest)

-- The command c took effect on the manager of the run `old`, and only the prefix `out` of its reply was written; the managers after it, `olds`, are unchanged.
-- `news` are all runs after that.
pub record IsCutHere (old : RunState) (olds : List RunState) (c : Command) (out : List ℕ) (news : List RunState) : Type 0 where
  pub reply : Reply
  pub lost : List ℕ
  pub new : RunState
  pub turn : IsCommandStep old c reply new
  pub cut : led [] (named_lines old.heap.kind reply) ≡ out ++ lost
  pub are : news ≡ new ∷ olds

-- The managers do the command c in order, up to the one whose reply was cut; `out` is the replies before that one and a prefix of it. The runs `olds` become
-- `news`.
abbrev pub EachInPart : List RunState → Command → List ℕ → List RunState → Type 0
EachInPart [] c out news = ⊥
EachInPart (old ∷ olds) c out news =
    IsCutHere old olds c out news
    ⊎ ((first : Reply) × (more : List ℕ) × (new : RunState) × (rest : List RunState)
    × IsCommandStep old c first new × EachInPart olds c more rest × (out ≡ led [] (named_lines old.heap.kind first) ++ more) × (news ≡ new ∷ rest))

-- An allocation failed at the `heap` line: the managers before the one that failed are open and empty, that one is closed, and the later ones are unchanged;
-- so are all sessions.
pub record LacksSome (old new : SideBySide) : Type 0 where
  pub settings : Settings
  pub stops : Stops (Opens settings) IsClosed old.heaps new.heaps
  pub sessions : new.sessions ≡ old.sessions

-- The relations of the mode handler of a list of managers, for the script loop. The plan is each manager's kind, and whether it promises an order.
abbrev pub many_managers : Semantics SideBySide (List Kind × List Bool)
many_managers = record {
  plan = λ m. (kinds_of m, promises_of m);
  is_fresh = IsEachFresh;
  is_going = IsEachGoing;
  begins = λ plan p reply new. EachBegins plan.0 p reply (runs_of new);
  turns = λ old c reply new. EachTurn (runs_of old) c reply (runs_of new);
  turns_in_part = λ old c out new. EachInPart (runs_of old) c out (runs_of new);
  lacks = LacksSome;
}
