-- What it means that a session answered one command: the run made its step, and the reply, or a prefix of it, was written to a sink.
use Rattle.std.specs.Prelude.{◌≡◌, ℕ, List, ◌++◌, Option}
use Rattle.cf_io.specs.Feeds.{appended}
use Rattle.script_reader.specs.declared.command.Command.{Command}
use Rattle.run_model.specs.Runs.{IsCommandStep}
use Rattle.run_model.specs.Sessions.{RunState}
use Rattle.run_model.specs.Texts.{Reply, led}

-- a command, and `lead`: the bytes written before each line of its reply
pub record Asked : Type 0 where
  pub command : Command
  pub lead : List ℕ

-- the state of a run at one moment, and the bytes written so far; `None` if the sink isn't observable
pub record Moment : Type 0 where
  pub run : RunState
  pub written : Option (List ℕ)

-- between the moments `old` and `new`, the command of `asked` took effect, and its whole reply was written
pub record IsAnswered (old : Moment) (asked : Asked) (new : Moment) : Type 0 where
  pub reply : Reply
  pub turn : IsCommandStep old.run asked.command reply new.run
  pub written : new.written ≡ appended old.written (led asked.lead reply)

-- between the moments `old` and `new`, the command of `asked` took effect, but the sink got only `front` of its reply, a prefix; `lost` is the rest
pub record IsCutShort (old : Moment) (asked : Asked) (new : Moment) : Type 0 where
  pub reply : Reply
  pub front : List ℕ
  pub lost : List ℕ
  pub turn : IsCommandStep old.run asked.command reply new.run
  pub cut : led asked.lead reply ≡ front ++ lost
  pub written : new.written ≡ appended old.written front
