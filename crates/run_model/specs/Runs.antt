-- A run of one session on one manager over the items of a script: how it begins, its steps, and the run itself.
use Rattle.std.specs.Prelude.{◌≡◌, List, Option, codes}
use Rattle.cf_base.specs.Settings.{Profile}
use Rattle.cf_base.specs.declared.kind.Kind.{Kind}
use Rattle.cf_model.specs.Rules.{KeepsRules}
use Rattle.cf_model.specs.Steps.{IsOpeningOrder, IsOpeningWords, ordered_heap}
use Rattle.script_reader.specs.Items.{Item}
use Rattle.script_reader.specs.declared.command.Command.{Command}
use Rattle.run_model.specs.Bounds.{MeetsBounds}
use Rattle.run_model.specs.Plays.{PlayRun, PlayStep}
use Rattle.run_model.specs.Sessions.{RunState, fresh_session}
use Rattle.run_model.specs.Steps.{Step}
use Rattle.run_model.specs.Texts.{Reply, said}

-- `new` is the state of a run at its start: a manager of the kind is open with settings `p` and without objects, and its session is new
pub record Begins (kind : Kind) (p : Profile) (new : RunState) : Type 0 where
  pub session : new.session ≡ fresh_session
  pub words : IsOpeningWords kind p new.heap.words
  pub order : IsOpeningOrder kind p new.heap.order
  pub heap : new.heap ≡ ordered_heap kind p new.heap.words new.heap.order
  pub rules : KeepsRules new.heap

-- in state `old` the command may get this reply and lead to state `new`: it is a `Step`, and it meets the two claims of `MeetsBounds`
pub record IsCommandStep (old : RunState) (command : Command) (reply : Reply) (new : RunState) : Type 0 where
  pub step : Step old command reply new
  pub bounds : MeetsBounds old.heap.kind old command reply new

-- the `heap` line with settings `p` gets the reply `ok`, and `new` is the state of a run at its start
abbrev pub BeginsOne : Kind → Profile → Reply → RunState → Type 0
BeginsOne kind p reply new = Begins kind p new × (reply ≡ said (codes "ok"))

-- In the first state, `None` before the `heap` line, the item may get this reply and lead to the second state. A `heap` line begins a new run. A command before
-- the `heap` line does nothing. No script has such a command, or a second `heap` line.
abbrev pub ItemStep : Kind → Option RunState → Item → Reply → Option RunState → Type 0
ItemStep kind = PlayStep (BeginsOne kind) IsCommandStep

-- from the first state the items, in order, may get these replies, one each, and lead to the second state; `None` is the state before the `heap` line
abbrev pub Run : Kind → Option RunState → List Item → List Reply → Option RunState → Type 0
Run kind = PlayRun (BeginsOne kind) IsCommandStep
