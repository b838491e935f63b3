-- The state of a session, and how it counts the objects that calls move; the state of a run (a session and its manager), what is always true of a run in
-- progress, and a run whose manager could not open. A session is what names the objects of a manager by ids: that of a script, or that of another program
-- (trait `Namer`).
use Rattle.std.specs.Prelude.{◌≡◌, ℕ, ◌+◌, ◌-◌, ◌^◌, ◌≤◌, ⊤, Option, Some, None, min, refl, IsTrue}
use Rattle.std.specs.FinMap as map
use Rattle.std.specs.Coded.{Coded, code_by, coded×, coded_ℕ}
use Rattle.cf_base.specs.declared.kind.Kind.{Kind}
use Rattle.cf_model.specs.Families.{paged, tiled, family_of}
use Rattle.cf_model.specs.Rules.{KeepsRules}
use Rattle.cf_model.specs.State.{HeapState}
use Rattle.cf_model.specs.Steps.{IsClosed}
use Rattle.id_table.specs.Ids.{Ids}
use Rattle.id_table.specs.Ties.{AreTiedTo}

-- `ids` maps each live id to the number of its handle. `bound` is the step bound of the last malloc, free or resize, 0 before the first one. `moves` counts the
-- objects that frees and resizes moved into the slots that they freed, and `words` the words of these slots. Both counts saturate.
pub record SessionState : Type 0 where
  pub ids : Ids
  pub bound : ℕ
  pub moves : ℕ
  pub words : ℕ

-- a new session: no id is live, and nothing is counted
abbrev pub fresh_session : SessionState
fresh_session = record { ids = map.empty; bound = 0; moves = 0; words = 0 }

-- the encoding of a session's state as nested pairs, which the model of the type `Session` needs
abbrev pub session_code : Coded SessionState
session_code = code_by (Ids × (ℕ × (ℕ × ℕ))) (coded× (map.code coded_ℕ coded_ℕ) (coded× coded_ℕ (coded× coded_ℕ coded_ℕ)))
    (λ s. (s.ids, (s.bound, (s.moves, s.words)))) (λ q. record { ids = q.0; bound = q.1.0; moves = q.1.1.0; words = q.1.1.1 }) (λ _. refl)

-- the count with `n` added, at most 2^64 - 1
abbrev pub more_by : ℕ → ℕ → ℕ
more_by count n = min (count + n) (2 ^ 64 - 1)

-- session `s` after a call that moved an object into a slot of `slot_words` words: one more move, and these words more; `s` itself if the call moved none
abbrev pub counted : {T : Type 0} → SessionState → Option T → ℕ → SessionState
counted s None slot_words = s
counted s (Some h) slot_words = record s { moves = more_by s.moves 1; words = more_by s.words slot_words }

-- the state of a run: that of the session, and that of its manager
pub record RunState : Type 0 where
  pub session : SessionState
  pub heap : HeapState

-- the state of a run: the state of its session and that of its manager
abbrev pub run_at : SessionState → HeapState → RunState
run_at session heap = record { session = session; heap = heap }

-- if the kind has pages, `cost` is at most `n` steps; if it has blocks, nothing is claimed
abbrev pub CostsAtMost : Kind → ℕ → ℕ → Type 0
CostsAtMost kind cost n = elim (family_of kind) [ paged ↦ cost ≤ n | tiled ↦ ⊤ ]

-- each live id names one live object, and each live object has one id; with pages the steps of the last malloc, free or resize are at most the session's step
-- bound
pub record AreTied (session : SessionState) (heap : HeapState) : Type 0 where
  pub ids : AreTiedTo session.ids heap.held
  pub cost : CostsAtMost heap.kind heap.cost session.bound

-- a run in state `s` is in progress: its manager is open and keeps its rules, and its session is consistent with it
pub record IsGoing (s : RunState) : Type 0 where
  pub opened : IsTrue s.heap.is_open
  pub rules : KeepsRules s.heap
  pub tied : AreTied s.session s.heap

-- an allocation failed when the manager was opened: it is closed, and the session is unchanged
pub record LacksOne (old new : RunState) : Type 0 where
  pub closed : IsClosed old.heap new.heap
  pub session : new.session ≡ old.session
