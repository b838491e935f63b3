-- The contract of `Script::turn`, one turn of the loop: it takes one chunk, and answers the items that the chunk completes. `m` is the semantics of the mode
-- handler; `old` and `new` are the script before and after the turn.
use Rattle.std.specs.Prelude.{◌≡◌, ◌<◌, ◌≤◌, ◌+◌, ◌++◌, ℕ, Bool, true, false, List, [], length, Option, Result, Ok, Err}
use Rattle.cf_base.specs.declared.status.Status.{Status}
use Rattle.cf_base.specs.declared.status.Status.TheVariants.{ReadFault, TooLong}
use Rattle.cf_io.specs.Feeds.{HasGiven, IsSpent, preceded}
use Rattle.cf_io.specs.Sources.{more_given}
use Rattle.script_reader.specs.Reading.{Reading}
use Rattle.script_loop.specs.AnswersSoFar.{IsWaiting, StopsAt, WentOn}
use Rattle.script_loop.specs.Progress.{IsReady, Progress, playing, progress}
use Rattle.script_loop.specs.ScriptOutcome.{MOST_BYTES, MOST_CHUNK}
use Rattle.script_loop.specs.Semantics.{Semantics}
use Rattle.script_loop.specs.declared.running.Script.{Script}

-- the state of the script's reader: what it was fed and keeps
abbrev pub reading_in : Script → Reading
reading_in script = script.reader

-- how many bytes the script may still take before it passes the limit
abbrev pub left_in : Script → ℕ
left_in script = script.left

-- A script between two turns: its progress; the bytes `rest` left in its source, if it is observable; `given`, how many bytes the source has returned; and
-- `left`, how many the script may still take.
pub record BetweenTurns (S : Type 0) : Type 0 where
  pub progress : Progress S
  pub rest : Option (List ℕ)
  pub given : ℕ
  pub left : ℕ

-- the record `BetweenTurns` of a script, the state of its run, the bytes written to the sink, the bytes left in the source, and how many the source returned
abbrev pub between : {S : Type 0} → Script → S → Option (List ℕ) → Option (List ℕ) → ℕ → BetweenTurns S
between script state written rest given =
    record { progress = progress (playing (reading_in script) state) written; rest = rest; given = given; left = left_in script }

-- a turn may begin in `b`: every whole line taken so far is answered, the state of the run fits the reader's stage, the reader wasn't told the end, and the
-- bytes fed and those that may still be taken add up to the limit
pub record AwaitsChunk {S P : Type 0} (m : Semantics S P) (b : BetweenTurns S) : Type 0 where
  pub waiting : IsWaiting b.progress.playing.reading
  pub ready : IsReady m b.progress.playing
  pub going : b.progress.playing.reading.ended ≡ false
  pub few : b.progress.playing.reading.fed + b.left ≡ MOST_BYTES

-- a chunk was taken: `within` is its bytes up to the limit, `past` those beyond it
pub record Chunk {S : Type 0} (old new : BetweenTurns S) : Type 0 where
  pub within : List ℕ
  pub past : List ℕ
  pub took : old.rest ≡ preceded (within ++ past) new.rest
  pub counted : new.given ≡ more_given old.given (length (within ++ past))
  pub fits : length within ≤ old.left
  pub short : length (within ++ past) ≤ MOST_CHUNK

-- a chunk within the limit was taken, and the items that it completes were answered
pub record AnswersChunk {S P : Type 0} (m : Semantics S P) (old new : BetweenTurns S) : Type 0 where
  pub chunk : Chunk old new
  pub whole : chunk.past ≡ []
  pub some : 0 < length chunk.within
  pub left : new.left + length chunk.within ≡ old.left
  pub went : WentOn m old.progress chunk.within new.progress

-- a chunk that passes the limit was taken, and the items that its bytes within the limit complete were answered
pub record PassesLimit {S P : Type 0} (m : Semantics S P) (old new : BetweenTurns S) : Type 0 where
  pub chunk : Chunk old new
  pub some : 0 < length chunk.past
  pub full : length chunk.within ≡ old.left
  pub went : WentOn m old.progress chunk.within new.progress

-- nothing was taken, and nothing was answered
pub record TakesNothing {S : Type 0} (old new : BetweenTurns S) : Type 0 where
  pub progress : new.progress ≡ old.progress
  pub rest : new.rest ≡ old.rest
  pub counted : HasGiven old.given 0 new.given
  pub left : new.left ≡ old.left

-- what the last turn did, from `old` to `new`, if the script ends with this status
abbrev pub StopsBy : {S P : Type 0} → Semantics S P → Status → BetweenTurns S → BetweenTurns S → Type 0
StopsBy m ReadFault old new = TakesNothing old new
StopsBy m TooLong old new = PassesLimit m old new
StopsBy m status old new = (c : Chunk old new) × StopsAt m old.progress c.within status new.progress

-- what a turn did, from `old` to `new`, by its result
abbrev pub TakesTurn : {S P : Type 0} → Semantics S P → BetweenTurns S → Result Bool Status → BetweenTurns S → Type 0
TakesTurn m old (Ok true) new = AnswersChunk m old new
TakesTurn m old (Ok false) new = TakesNothing old new × IsSpent old.rest
TakesTurn m old (Err status) new = StopsBy m status old new
