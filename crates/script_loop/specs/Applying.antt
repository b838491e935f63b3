-- What applying a command does, and building its reply of one line, in the session of any mode. `m` is the handler's `Semantics`, S its type of states, P that
-- of what no item changes; a `Snapshot` is a state with the bytes written, a *turn* a command with its reply and next state.
use Rattle.std.specs.Prelude.{◌≡◌, ◌<◌, ◌++◌, ℕ, List, [], Result, Ok, Err, length}
use Rattle.run_model.specs.Terms.{Command, Failed, led, Reply, said}
use Rattle.cf_io.specs.Lines.{line_capacity}
use Rattle.cf_session.specs.Apply.{outcome_of}
use Rattle.cf_session.specs.declared.outcome.Outcome.{Outcome}
use Rattle.script_loop.specs.Semantics.{HasTurn, HasTurnInPart, Semantics, Snapshot}

-- the type of a rule for commands: `turns old command reply new` means that in state `old` the command may get this reply and lead to state `new`
abbrev pub Turns : Type 0 → Type 1
Turns S = S → Command → Reply → S → Type 0

-- by the rule `turns` the command took effect and leads from `old` to `new`, but only `out`, a prefix of its reply, was written; `lost` is the rest of the
-- reply
pub record TurnsInPart {S : Type 0} (turns : Turns S) (old : S) (command : Command) (out : List ℕ) (new : S) : Type 0 where
  pub reply : Reply
  pub lost : List ℕ
  pub turn : turns old command reply new
  pub cut : led [] reply ≡ out ++ lost

-- The command took effect. If the result is `Ok`, its whole reply was written, and the result is the outcome of that reply; if `Err`, a prefix was written.
abbrev pub Applies : {S P : Type 0} → Semantics S P → Snapshot S → Command → Result Outcome Failed → Snapshot S → Type 0
Applies m old command (Ok outcome) new = (a : HasTurn m old command new) × (outcome ≡ outcome_of a.reply)
Applies m old command (Err failed) new = HasTurnInPart m old command new

-- by the rule `turns` the command may lead from `old` to `new` with the reply that `line` holds, which has room for the line feed
pub record BuildsReply {S : Type 0} (turns : Turns S) (old : S) (command : Command) (new : S) (line : List ℕ) : Type 0 where
  pub turn : turns old command (said line) new
  pub room : length line < line_capacity
