-- One command on many managers, after some of them have done it: what `answer_one`, `answer_each` and its loop claim. No clause of an exported function cites
-- this module.
use Rattle.std.specs.Prelude.{◌≡◌, ◌++◌, ℕ, List, [], Option, Result, Ok, Err, length}
use Rattle.run_model.specs.Terms.{appended, Command, led, Reply, RunState}
use Rattle.run_model.specs.Runs.{IsCommandStep}
use Rattle.top_call.specs.SideBySide.{EachTurn, named_lines}

-- one manager does a command with its own reply; `reply` is that reply with the name of the manager's kind before each line
pub record TurnNamed (old : RunState) (c : Command) (reply : Reply) (new : RunState) : Type 0 where
  pub own : Reply
  pub turn : IsCommandStep old c own new
  pub reply_is : reply ≡ named_lines old.heap.kind own

-- one manager does a command with its own reply; of that reply, with the name of its kind before each line, the prefix `out` was written
pub record TurnNamedInPart (old : RunState) (c : Command) (out : List ℕ) (new : RunState) : Type 0 where
  pub own : Reply
  pub lost : List ℕ
  pub turn : IsCommandStep old c own new
  pub cut : led [] (named_lines old.heap.kind own) ≡ out ++ lost

-- The command c led from the state `old` to `new`, and the sink, which held the bytes `before`, holds `after`. `Ok`: the relation `turns` holds, and the whole
-- reply was written. `Err`: the sink failed, the relation `in_part` holds, and `out`, a prefix of the reply, was written.
abbrev pub AnswersWith : {S T E : Type 0} → (S → Command → Reply → S → Type 0) → (S → Command → List ℕ → S → Type 0) → S → Option (List ℕ) → Command
    → Result T E → S → Option (List ℕ) → Type 0
AnswersWith turns in_part old before c (Ok u) new after = (reply : Reply) × turns old c reply new × (after ≡ appended before (led [] reply))
AnswersWith turns in_part old before c (Err e) new after = (out : List ℕ) × in_part old c out new × (after ≡ appended before out)

-- one manager does the command c, and its reply, with the name of its kind before each line, is written whole or in part, by the result r
abbrev pub AnswersNamed : {T E : Type 0} → RunState → Option (List ℕ) → Command → Result T E → RunState → Option (List ℕ) → Type 0
AnswersNamed old before c r new after = AnswersWith TurnNamed TurnNamedInPart old before c r new after

-- Of the runs `olds` the first i, `done`, did the command c, with this reply, and became `turned`; the others, `ahead`, are unchanged. `news` are all runs now.
pub record Swept (olds : List RunState) (i : ℕ) (c : Command) (reply : Reply) (news : List RunState) : Type 0 where
  pub done : List RunState
  pub turned : List RunState
  pub ahead : List RunState
  pub olds_are : olds ≡ done ++ ahead
  pub news_are : news ≡ turned ++ ahead
  pub count : length turned ≡ i
  pub turns : EachTurn done c reply turned
