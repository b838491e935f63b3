-- What the laws of this crate claim of a script's status, and of its output: the reads in it; that it is a prefix of a run's output, or the transcript. `call`
-- has the bytes in source and sink, before and after, and the status.
use Rattle.std.specs.Prelude.{◌≡◌, ◌++◌, ⊤, ℕ, List, [], Option, Some, None, if◌then◌else◌, length, nat_le}
use Rattle.run_model.specs.Terms.{appended, IsPaged, Item, Kind, Reply, RunState, Status, text_of}
use Rattle.cf_base.specs.declared.status.Status.TheVariants.{Done, BadScript, TooLong}
use Rattle.script_laws.specs.IdBytes.{AreReadsOf}
use Rattle.run_model.specs.Runs.{Run}
use Rattle.script_loop.specs.ScriptOutcome.{Effects, MOST_BYTES, has_bad, items_within}
use Rattle.script_loop.specs.Semantics.{RunBy, Semantics}
use Rattle.script_laws.specs.Transcripts.{ArePlaceless, StaysAtOne, transcript}

-- the statuses after which every item within the limit of 268,435,455 bytes was answered
abbrev pub AnswersAll : Status → Type 0
AnswersAll Done = ⊤
AnswersAll BadScript = ⊤
AnswersAll TooLong = ⊤
AnswersAll status = ⊥

-- the status of a call that answered each item of these bytes
abbrev pub status_of : List ℕ → Status
status_of all = if has_bad (items_within all) then BadScript else (if nat_le (length all) MOST_BYTES then Done else TooLong)

-- a reply to each of the items `wanted` was printed, and the reply to each read is the bytes last written through its id
pub record PrintsReads (wanted : List Item) (call : Effects) : Type 0 where
  pub replies : List Reply
  pub reads : AreReadsOf None wanted replies
  pub written : call.after ≡ appended call.before (text_of [] replies)

-- the text is a prefix of the output of some run over all the items `wanted`, on a manager of this kind; `missing` is the rest of the output
pub record IsPrefixOfRun (kind : Kind) (wanted : List Item) (text : List ℕ) : Type 0 where
  pub replies : List Reply
  pub end : Option RunState
  pub run : Run kind None wanted replies end
  pub missing : List ℕ
  pub prefix : text_of [] replies ≡ text ++ missing

-- the items are plain: the kind has pages, every bound is 1 at each command except `k`, and no command asks for an address or a cost
pub record ArePlain (kind : Kind) (wanted : List Item) : Type 0 where
  pub paged : IsPaged kind
  pub ones : StaysAtOne kind None wanted
  pub placeless : ArePlaceless wanted

-- if the source is observable and the items of its bytes `all` are plain, the call appended their transcript to the sink
abbrev pub PrintsTranscript : Kind → Option (List ℕ) → Effects → Type 0
PrintsTranscript kind None call = ⊤
PrintsTranscript kind (Some all) call = ArePlain kind (items_within all) → call.after ≡ appended call.before (text_of [] (transcript kind (items_within all)))

-- the text is a prefix of the output of some run by the semantics `m`, from the state `from`, over all the items `wanted`; `missing` is the rest of the output
pub record IsPrefixBy {S P : Type 0} (m : Semantics S P) (from : S) (wanted : List Item) (text : List ℕ) : Type 0 where
  pub replies : List Reply
  pub end : Option S
  pub run : RunBy m from None wanted replies end
  pub missing : List ℕ
  pub prefix : text_of [] replies ≡ text ++ missing
