-- The state of a session and of a run, re-exported, and the bounds on the cost of a command.
use Rattle.std.specs.Prelude.{ℕ, ◌≤◌}
use Rattle.cf_base.specs.declared.kind.Kind.{Kind}
use Rattle.cf_model.specs.Families.{paged, tiled, family_of}
pub use Rattle.id_table.specs.Ids.{Ids}
pub use Rattle.id_table.specs.Sessions.{AreTied, CostsAtMost, IsGoing, RunState, SessionState, counted, fresh_session, more_by, session_code}

-- if the kind has pages, `cost` is at most `n` steps; if it has blocks, at most `m`
abbrev pub CostsByKind : Kind → ℕ → ℕ → ℕ → Type 0
CostsByKind kind cost n m = elim (family_of kind) [ paged ↦ cost ≤ n | tiled ↦ cost ≤ m ]
