-- How the run of a whole script may end: for each status its cause, which bytes were read, which items were answered, and what was written. Also the limits on
-- bytes, and which bytes are a clean script. `m` is the semantics of the mode handler; its run goes from the state `from` to the state `to`.
use Rattle.std.specs.Prelude.{◌≡◌, ◌<◌, ◌≤◌, ◌+◌, ◌⊎◌, ◌++◌, ℕ, Bool, true, false, List, [], ◌∷◌, length, take, nat_le, Option, Some, None, Result, Ok, Err}
use Rattle.std.specs.List.{list_any}
use Rattle.run_model.specs.Terms.{appended, asks, bad, Item, items, Reply, SinkFailsIf, SinkState, SourceFailsIf, SourceState, starts, Status, text_of}
use Rattle.cf_base.specs.declared.status.Status.TheVariants.{Done, Words, BadScript, ReadFault, WriteFault, OutOfMemory, TooLong, BadImage}
use Rattle.cf_io.specs.Feeds.{HasGiven, MayFollow, last_count, preceded}
use Rattle.script_reader.specs.Items.{AreFirstOf}
use Rattle.script_loop.specs.Semantics.{PartBy, RunBy, Semantics}

-- the most bytes of a script
abbrev pub MOST_BYTES : ℕ
MOST_BYTES = 268435455

-- the most bytes of a chunk
abbrev pub MOST_CHUNK : ℕ
MOST_CHUNK = 4096

-- whether an item is a line that isn't in the grammar at its place
abbrev pub is_bad : Item → Bool
is_bad (starts settings) = false
is_bad (asks command) = false
is_bad (bad n) = true

-- whether some item is a line that isn't in the grammar at its place
abbrev pub has_bad : List Item → Bool
has_bad = list_any is_bad

-- the items of the first 268,435,455 bytes of `all`; if there are no more bytes, the last line needs no line feed
abbrev pub items_within : List ℕ → List Item
items_within all = items (take MOST_BYTES all) (nat_le (length all) MOST_BYTES)

-- What a call did to the bytes of its source and sink. `had` and `left`: the bytes in the source before and after the call. `given_before` and `given_after`:
-- how many bytes the source had returned by then. `before` and `after`: the bytes in the sink. A list is `None` if the device isn't observable.
pub record Effects : Type 0 where
  pub had : Option (List ℕ)
  pub left : Option (List ℕ)
  pub given_before : ℕ
  pub given_after : ℕ
  pub before : Option (List ℕ)
  pub after : Option (List ℕ)
  pub status : Status

-- the record `Effects` of a call with this status: from the states of its source and its sink before it, and their states `source'` and `sink'` after it
abbrev pub effects : SourceState → SinkState → Status → SourceState → SinkState → Effects
effects source sink status source' sink' = record {
  had = source.rest;
  left = source'.rest;
  given_before = source.given;
  given_after = source'.given;
  before = sink.written;
  after = sink'.written;
  status = status;
}

-- `to` is the state after the run that began in `from`: its last state, or `from` itself if no run began (`None`)
abbrev pub EndsAt : {S : Type 0} → S → Option S → S → Type 0
EndsAt from None to = to ≡ from
EndsAt from (Some s) to = to ≡ s

-- a run from `from` over the items `wanted` leads to the state `to`, and all its replies were written
pub record Wrote {S P : Type 0} (m : Semantics S P) (from : S) (wanted : List Item) (call : Effects) (to : S) : Type 0 where
  pub replies : List Reply
  pub end : Option S
  pub run : RunBy m from None wanted replies end
  pub written : call.after ≡ appended call.before (text_of [] replies)
  pub stands : EndsAt from end to

-- `wanted` is `before`, `item` and `after`. The replies of a run over `before` were written; then `item` took effect and leads to the state `to`, but only
-- `front`, a prefix of its reply, was written. The items `after` were not answered.
pub record WroteInPart {S P : Type 0} (m : Semantics S P) (from : S) (wanted : List Item) (call : Effects) (to : S) : Type 0 where
  pub before : List Item
  pub item : Item
  pub after : List Item
  pub parts : wanted ≡ before ++ item ∷ after
  pub replies : List Reply
  pub mid : Option S
  pub run : RunBy m from None before replies mid
  pub front : List ℕ
  pub end : Option S
  pub part : PartBy m from mid item front end
  pub written : call.after ≡ appended call.before (text_of [] replies ++ front)
  pub stands : EndsAt from end to

-- Of the bytes `all`, `left` were not taken. Those taken are `earlier` and then at most 4,096 others, `last`. Each item whose line is complete in `earlier` is
-- among the items `before`, which were answered whole.
pub record TakesAtMostAChunk (before : List Item) (all left : List ℕ) : Type 0 where
  pub earlier : List ℕ
  pub last : List ℕ
  pub took : all ≡ earlier ++ (last ++ left)
  pub short : length last ≤ MOST_CHUNK
  pub answered : AreFirstOf (items earlier false) before

-- an allocation failed at the `heap` line, nothing was written, and the semantics allow the state `to` after that
pub record RanOutOfMemory {S P : Type 0} (m : Semantics S P) (from : S) (call : Effects) (to : S) : Type 0 where
  pub lacks : m.lacks from to
  pub unwritten : call.after ≡ call.before

-- What is true for each status, if the source had the bytes `all` before the call and has `left` after it. With `Done`, `BadScript` and `TooLong` each item
-- within the limit was answered; with `BadScript` one of them is a bad line, with the other two none. With `Done` no byte is left, with `TooLong` the bytes
-- pass the limit. If the source failed, each item whose line is complete in the bytes taken was answered, and no other item. If the sink failed, each item
-- whose line is complete before the last bytes taken, at most 4,096, was answered whole. With `OutOfMemory` an allocation failed at the `heap` line. No script
-- ends by `Words` or `BadImage`.
abbrev pub IsStatusRow : {S P : Type 0} → Semantics S P → Status → S → List ℕ → List ℕ → Effects → S → Type 0
IsStatusRow m Done from all left call to = (length all ≤ MOST_BYTES) × (left ≡ []) × (has_bad (items_within all) ≡ false) × Wrote m from (items_within all) call to
IsStatusRow m BadScript from all left call to = (has_bad (items_within all) ≡ true) × Wrote m from (items_within all) call to
IsStatusRow m TooLong from all left call to = (MOST_BYTES < length all) × (has_bad (items_within all) ≡ false) × Wrote m from (items_within all) call to
IsStatusRow m ReadFault from all left call to = (taken : List ℕ) × (all ≡ taken ++ left) × (length taken ≤ MOST_BYTES)
    × (has_bad (items taken false) ≡ false) × Wrote m from (items taken false) call to
IsStatusRow m WriteFault from all left call to = (w : WroteInPart m from (items_within all) call to) × TakesAtMostAChunk w.before all left
IsStatusRow m OutOfMemory from all left call to = RanOutOfMemory m from call to
IsStatusRow m Words from all left call to = ⊥
IsStatusRow m BadImage from all left call to = ⊥

-- The outcome of a script over every source, observable or not. The call took the bytes `taken` (and met the end if `ended`). Whatever bytes `more` may follow
-- them, `IsStatusRow` holds for a source that had `taken` and then `more`. `from` and `to` are the states of the run before and after the call.
pub record MeetsOutcome {S P : Type 0} (m : Semantics S P) (from : S) (call : Effects) (to : S) : Type 0 where
  pub taken : List ℕ
  pub ended : Bool
  pub took : call.had ≡ preceded taken call.left
  pub counted : HasGiven call.given_before (length taken) call.given_after
  pub row : (more : List ℕ) → MayFollow call.left ended more → IsStatusRow m call.status from (taken ++ more) more call to

-- whether the status says that the source failed
abbrev pub is_read_fault : Status → Bool
is_read_fault ReadFault = true
is_read_fault status = false

-- whether the status says that the sink failed
abbrev pub is_write_fault : Status → Bool
is_write_fault WriteFault = true
is_write_fault status = false

-- whether the script ended since the source failed
abbrev pub fails_to_read : {T : Type 0} → Result T Status → Bool
fails_to_read (Ok done) = false
fails_to_read (Err status) = is_read_fault status

-- whether the script ended since the sink failed
abbrev pub fails_to_write : {T : Type 0} → Result T Status → Bool
fails_to_write (Ok done) = false
fails_to_write (Err status) = is_write_fault status

-- The cause of each status, over every source and sink; `source'` and `sink'` are their states after the call. `ReadFault` means that the last call of the
-- source failed, `WriteFault` the same of the sink; with any other status neither failed. With `OutOfMemory` nothing was written. `TooLong` means that the
-- source returned more than the limit, or that its count of bytes saturated.
pub record HasCauses (source : SourceState) (sink : SinkState) (status : Status) (source' : SourceState) (sink' : SinkState) : Type 0 where
  pub silent : status ≡ OutOfMemory → sink'.written ≡ sink.written
  pub source_fault : SourceFailsIf (is_read_fault status) source source'
  pub sink_fault : SinkFailsIf (is_write_fault status) sink sink'
  pub too_long : status ≡ TooLong → (source.given + MOST_BYTES < source'.given) ⊎ (source'.given ≡ last_count)

-- The contract of `play_script`, which led from the state `from` to the state `to`: the outcome of the script, that the plan is unchanged, and the causes of
-- the status.
pub record Plays {S P : Type 0} (m : Semantics S P) (from : S) (source : SourceState) (sink : SinkState) (status : Status) (source' : SourceState)
    (sink' : SinkState) (to : S) : Type 0 where
  pub outcome : MeetsOutcome m from (effects source sink status source' sink') to
  pub plan : m.plan to ≡ m.plan from
  pub causes : HasCauses source sink status source' sink'

-- the source is observable, its bytes are within the limit, and no line is bad
abbrev pub IsClean : Option (List ℕ) → Type 0
IsClean None = ⊥
IsClean (Some all) = (length all ≤ MOST_BYTES) × (has_bad (items all true) ≡ false)
