-- Replies of one line while they are built and written, for the functions inside this crate. No public clause cites this module.
use Rattle.std.specs.Prelude.{◌≡◌, ◌<◌, ℕ, ◌++◌, List, length, Result}
use Rattle.run_model.specs.Terms.{Failed, led, said, SinkState, Writes}
use Rattle.cf_io.specs.Lines.{line_capacity}
use Rattle.cf_session.specs.Apply.{IsEnded, outcome_in}
use Rattle.cf_session.specs.Short.{short_text}
use Rattle.cf_session.specs.declared.outcome.Outcome.{Outcome}
use Rattle.cf_session.specs.declared.short.OneLine.{OneLine}
use Rattle.cf_session.specs.declared.short.OneLine.TheVariants as reply

-- `text` is all that a line holds so far, and `lead` the bytes with which it must begin
pub record Lines : Type 0 where
  pub lead : List ℕ
  pub text : List ℕ

-- the record `Lines` of a lead and of the text of a line that should begin with it
abbrev pub lines_at : List ℕ → List ℕ → Lines
lines_at lead text = record { lead = lead; text = text }

-- A function that built the reply `text` returned this `OneLine`: a short reply with that text; or `Written`, if the line holds the lead and then `text`, with
-- room for the line feed, and the outcome is that of `text`.
abbrev pub SaidOn : Lines → List ℕ → OneLine → Type 0
SaidOn line text (reply.Short short) = short_text short ≡ text
SaidOn line text (reply.Written outcome) = (line.text ≡ line.lead ++ text) × (length line.text < line_capacity) × (outcome ≡ outcome_in text)

-- if the reply is on the line already, the line has room for the line feed
abbrev pub HasRoom : List ℕ → OneLine → Type 0
HasRoom line (reply.Short short) = Unit {0}
HasRoom line (reply.Written outcome) = length line < line_capacity

-- The lead, `text` and a line feed were written, and the result is the outcome of `text`; or the sink failed, the result is an error, and a prefix of this line
-- was written.
pub record IsPut (text lead : List ℕ) (before : SinkState) (answer : Result Outcome Failed) (after : SinkState) : Type 0 where
  pub written : Result Unit Failed
  pub puts : Writes before (led lead (said text)) written after
  pub ended : IsEnded written (outcome_in text) answer
