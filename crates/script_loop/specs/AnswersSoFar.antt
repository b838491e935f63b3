-- The contracts of the inner loops of the script loop: bytes were fed to the reader, and the items that they complete were answered; four ways in which that
-- may end (`AnswersItems`); when the reader has no whole item left (`IsWaiting`); and the reply to a bad line (`PrintsBadLine`). `m` is the semantics of the
-- mode handler.
use Rattle.std.specs.Prelude.{◌≡◌, ◌≤◌, ◌+◌, ◌++◌, ℕ, Bool, true, false, List, [], ◌∷◌, length, Option, Some, None, Result, Ok, Err}
use Rattle.run_model.specs.Terms.{appended, bad_line, Item, led, Reply, said, Status, text_of}
use Rattle.cf_base.specs.declared.status.Status.TheVariants.{BadScript, WriteFault, OutOfMemory}
use Rattle.cf_io.specs.Feeds.{WritesPrefix}
use Rattle.script_reader.specs.Lines.{LONGEST}
use Rattle.script_reader.specs.Reading.{Reading, items_left}
use Rattle.script_reader.specs.declared.stage.Stage.TheVariants.{Opening}
use Rattle.script_loop.specs.Progress.{IsReady, Playing, Progress, run_of}
use Rattle.script_loop.specs.ScriptOutcome.{has_bad}
use Rattle.script_loop.specs.Semantics.{PartBy, RunBy, Semantics}

-- The bytes `chunk` were fed. The items `done` that they complete were answered, `text` is their replies, and `stopped` is whether a bad line is one of them.
-- `left`: whatever bytes `more` follow, the items of `chunk` and `more` are `done` and then those that are still to be answered. While the reader awaits the
-- `heap` line (stage `Opening`), the state is unchanged (`untouched`), and nothing was written unless a bad line was met (`silent`).
pub record Answered {S P : Type 0} (m : Semantics S P) (old : Playing S) (chunk : List ℕ) (new : Playing S) (text : List ℕ) (stopped : Bool) : Type 0 where
  pub done : List Item
  pub replies : List Reply
  pub run : RunBy m old.state (run_of old) done replies (run_of new)
  pub text_is : text ≡ text_of [] replies
  pub stops : has_bad done ≡ stopped
  pub left : (more : List ℕ) (ended : Bool) → items_left old.reading (chunk ++ more) ended ≡ done ++ items_left new.reading more ended
  pub plan : m.plan new.state ≡ m.plan old.state
  pub untouched : new.reading.stage ≡ Opening → (old.reading.stage ≡ Opening) × (new.state ≡ old.state)
  pub silent : stopped ≡ false → new.reading.stage ≡ Opening → text ≡ []

-- The bytes `chunk` were fed. The items `done` were answered whole and led to the state `mid`. The next one, `item`, took effect, but only `front`, a prefix of
-- its reply, was written. `out` is the replies and this prefix. The clause `untouched` is as in `Answered`.
pub record CutOff {S P : Type 0} (m : Semantics S P) (old : Playing S) (chunk : List ℕ) (new : Playing S) (out : List ℕ) : Type 0 where
  pub done : List Item
  pub replies : List Reply
  pub mid : Option S
  pub item : Item
  pub front : List ℕ
  pub run : RunBy m old.state (run_of old) done replies mid
  pub part : PartBy m old.state mid item front (run_of new)
  pub out_is : out ≡ text_of [] replies ++ front
  pub plan : m.plan new.state ≡ m.plan old.state
  pub left : (more : List ℕ) (ended : Bool) → (after : List Item) × (items_left old.reading (chunk ++ more) ended ≡ done ++ item ∷ after)
  pub untouched : new.reading.stage ≡ Opening → (old.reading.stage ≡ Opening) × (new.state ≡ old.state)

-- the reader `r` needs more bytes, or was told the end and has no item left: it isn't stopped, the bytes that it keeps hold no whole item, and before the end
-- they are at most the longest line
pub record IsWaiting (r : Reading) : Type 0 where
  pub going : r.stopped ≡ None
  pub quiet : items_left r [] false ≡ []
  pub room : r.ended ≡ false → length r.kept ≤ LONGEST

-- `Ok`: all items that the chunk completes were answered, and the reader needs more bytes, or was told the end and has no item left
pub record WentOn {S P : Type 0} (m : Semantics S P) (old : Progress S) (chunk : List ℕ) (new : Progress S) : Type 0 where
  pub text : List ℕ
  pub answered : Answered m old.playing chunk new.playing text false
  pub wrote : new.written ≡ appended old.written text
  pub ready : IsReady m new.playing
  pub waiting : IsWaiting new.playing.reading
  pub same_end : new.playing.reading.ended ≡ old.playing.reading.ended
  pub fed : new.playing.reading.fed ≡ old.playing.reading.fed + length chunk

-- `BadScript`: the script stopped at a bad line, and its number was written
pub record HasStopped {S P : Type 0} (m : Semantics S P) (old : Progress S) (chunk : List ℕ) (new : Progress S) : Type 0 where
  pub text : List ℕ
  pub answered : Answered m old.playing chunk new.playing text true
  pub wrote : new.written ≡ appended old.written text
  pub over : (line : ℕ) × (new.playing.reading.stopped ≡ Some line)

-- `WriteFault`: the sink failed at the reply to an item, and a prefix of that reply was written
pub record WasCut {S P : Type 0} (m : Semantics S P) (old : Progress S) (chunk : List ℕ) (new : Progress S) : Type 0 where
  pub out : List ℕ
  pub cut : CutOff m old.playing chunk new.playing out
  pub wrote : new.written ≡ appended old.written out

-- `OutOfMemory`: an allocation failed at the `heap` line, and nothing was written
pub record LackedMemory {S P : Type 0} (m : Semantics S P) (old new : Progress S) : Type 0 where
  pub stage : old.playing.reading.stage ≡ Opening
  pub lacks : m.lacks old.playing.state new.playing.state
  pub plan : m.plan new.playing.state ≡ m.plan old.playing.state
  pub wrote : new.written ≡ old.written

-- from the progress `old` the bytes `chunk` led to the progress `new`, and the script ends with this status
abbrev pub StopsAt : {S P : Type 0} → Semantics S P → Progress S → List ℕ → Status → Progress S → Type 0
StopsAt m old chunk BadScript new = HasStopped m old chunk new
StopsAt m old chunk WriteFault new = WasCut m old chunk new
StopsAt m old chunk OutOfMemory new = LackedMemory m old new
StopsAt m old chunk status new = ⊥

-- from the progress `old` the bytes `chunk` led to the progress `new`, by the result of `answer_chunk`, or with no bytes by that of `answer_pending_items`
abbrev pub AnswersItems : {S P : Type 0} → Semantics S P → Progress S → List ℕ → Result (Unit {0}) Status → Progress S → Type 0
AnswersItems m old chunk (Ok done) new = WentOn m old chunk new
AnswersItems m old chunk (Err status) new = StopsAt m old chunk status new

-- the number of a bad line was written, or if the sink failed, a prefix of that reply
abbrev pub PrintsBadLine : Option (List ℕ) → ℕ → Status → Option (List ℕ) → Type 0
PrintsBadLine old line BadScript new = new ≡ appended old (led [] (said (bad_line line)))
PrintsBadLine old line WriteFault new = WritesPrefix old (led [] (said (bad_line line))) new
PrintsBadLine old line status new = ⊥
