-- For the laws of `cf_main`: conditions under which the arguments (here `words`) and the script determine the output of a call; and the claim that a call
-- printed the replies of runs in order.
use Rattle.std.specs.Prelude.{◌≡◌, ⊤, ℕ, IsSome, List, [], ◌∷◌, Option, None, Some, map}
use Rattle.std.specs.List.{All}
use Rattle.clap.specs.Words.{Text}
use Rattle.run_model.specs.Terms.{appended, HeapState, Item, Kind, Reply, RunState, Status, text_of}
use Rattle.top_call.specs.declared.choice.Choice.{Choice}
use Rattle.top_call.specs.declared.choice.Mode.{Mode}
use Rattle.top_call.specs.declared.choice.Mode.TheVariants.{Run, Compare}
use Rattle.run_model.specs.Runs.{Run as RunOver}
use Rattle.script_laws.specs.OneOutput.{IsOrdered}
use Rattle.script_loop.specs.Consequences.{AnswersAll, status_of}
use Rattle.script_loop.specs.ScriptOutcome.{items_within}
use Rattle.top_call.specs.FirstOfKind.{chosen_manager}
use Rattle.top_call.specs.Outcomes.{CallState, kinds_in, orders_in}
use Rattle.top_call.specs.OwnRuns.{bare_reply, interleaved_replies}
use Rattle.top_call.specs.TopOutcome.{EndsWell, PrintsAsClaimed}

-- a call: what it works on, before and after it, and its status
pub record TopCall : Type 0 where
  pub old : CallState
  pub status : Status
  pub new : CallState

-- the call keeps the contract of `cf_main` for the arguments `words`
pub record KeepsContract (words : List Text) (call : TopCall) : Type 0 where
  pub outcome : EndsWell words call.old call.status call.new
  pub claimed : PrintsAsClaimed words call.old call.status call.new
  pub kinds : kinds_in call.new ≡ kinds_in call.old
  pub orders : orders_in call.new ≡ orders_in call.old

-- the source had the bytes `all`, in whatever chunks, and the call has a status after which every item within the limit was answered or the image was loaded
pub record AnswersWhole (all : List ℕ) (call : TopCall) : Type 0 where
  pub had : call.old.source.rest ≡ Some all
  pub answered : AnswersAll call.status

-- the manager promises an order
abbrev pub PromisesOrder : HeapState → Type 0
PromisesOrder h = IsSome h.order

-- The mode leaves the managers no choice: in mode `run` the first manager of the kind promises an order, as does one that is made if none of the kind is given;
-- in mode `compare` each manager promises an order. The other modes never leave a choice.
abbrev pub LeavesNoChoice : Mode → Choice → List HeapState → Type 0
LeavesNoChoice Run choice managers = PromisesOrder (chosen_manager choice.kind managers)
LeavesNoChoice Compare choice managers = All PromisesOrder managers
LeavesNoChoice mode choice managers = ⊤

-- some replies were printed, `Claim` holds of the items of the bytes `all` and these replies, and the status follows from the bytes
pub record PrintsReplies (Claim : List Item → List Reply → Type 0) (all : List ℕ) (call : TopCall) : Type 0 where
  pub status : call.status ≡ status_of all
  pub replies : List Reply
  pub written : call.new.sink.written ≡ appended call.old.sink.written (text_of [] replies)
  pub claimed : Claim (items_within all) replies

-- these are the replies of a run on a manager that promises an order; so the order determines each address, choice, word and count of steps in them
pub record IsRunInOrder (kind : Kind) (items : List Item) (replies : List Reply) : Type 0 where
  pub end : Option RunState
  pub run : RunOver kind None items replies end
  pub ordered : IsOrdered end

-- the replies interleave those of one run in order for each manager; `kinds` are the managers' kinds
abbrev pub AreRunsInOrder : List Kind → List Item → List Reply → Type 0
AreRunsInOrder [] items replies = replies ≡ map bare_reply items
AreRunsInOrder (kind ∷ kinds) items replies = (owns : List Reply) × (others : List Reply)
    × IsRunInOrder kind items owns × AreRunsInOrder kinds items others × (replies ≡ interleaved_replies kind items owns others)
