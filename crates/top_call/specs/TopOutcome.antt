-- The contract of `cf_main`: what a call did, what it printed, and which input is right for it, by the mode that the arguments (here `words`) choose.
use Rattle.std.specs.Prelude.{◌≡◌, ⊤, ℕ, List, Option, Some, None}
use Rattle.run_model.specs.Terms.{empty, Kind, Moving, Status}
use Rattle.clap.specs.Words.{Text}
use Rattle.cf_base.specs.declared.status.Status.TheVariants.{Words, BadImage}
use Rattle.top_call.specs.Choices.{AreRefused, Chooses}
use Rattle.top_call.specs.declared.choice.Choice.{Choice}
use Rattle.top_call.specs.declared.choice.Mode.{Mode}
use Rattle.top_call.specs.declared.choice.Mode.TheVariants.{Run, Compare, Bench, Large, Save, Load, Slice, Quota}
use Rattle.script_laws.specs.Headline.{MeetsHeadline}
use Rattle.large_session.specs.LargeHeadline.{MeetsLarge}
use Rattle.top_call.specs.ImageClaims.{LoadsAs, Prints, SavesAs}
use Rattle.quota_session.specs.Transcript.{MeetsTasks}
use Rattle.script_loop.specs.Consequences.{AnswersAll}
use Rattle.script_loop.specs.ScriptOutcome.{Effects, IsClean}
use Rattle.top_call.specs.OwnRuns.{MeetHeadlines}
use Rattle.slice_session.specs.Playing.{SlicePlay, slice_play, slices}
use Rattle.sliced_heap.specs.Shown as sliced_state
use Rattle.slice_session.specs.SliceHeadline.{MeetsSliced}
use Rattle.quota_heap.specs.State as quota_state
use Rattle.quota_session.specs.Playing.{quota_tasks}
use Rattle.quota_session.specs.QuotaRun.{QuotaRun, first_session, quota_run}
use Rattle.top_call.specs.Claims.{GivesImage, MeetsClaim}
use Rattle.top_call.specs.Outcomes.{Benches, Compares, CallState, Loads, OrLacks, PlaysLarge, PlaysOwn, RunsChosen, Saves, effects_of, kinds_in}

-- the state of a new run in mode `slice`: no id is live, and the sliced heap, for slices of at most `quantum` words, was never open
abbrev pub IsMadeSliced : ℕ → SlicePlay → Type 0
IsMadeSliced quantum s = s ≡ slice_play empty quantum sliced_state.closed_sliced

-- the state of a new run in mode `quota`: the session is new, and the heap of tasks was never open
abbrev pub IsMadeForTasks : QuotaRun → Type 0
IsMadeForTasks s = s ≡ quota_run None first_session quota_state.closed_tasks

-- Mode `slice`: a script ran on a sliced heap made for it, in which a free leaves work to later slices.
abbrev pub PlaysSlices : ℕ → CallState → Status → CallState → Type 0
PlaysSlices quantum = PlaysOwn slices (IsMadeSliced quantum)

-- Mode `quota`: a script of tasks ran on a heap made for it, whose pages they share, each with a quota.
abbrev pub PlaysQuotas : CallState → Status → CallState → Type 0
PlaysQuotas = PlaysOwn quota_tasks IsMadeForTasks

-- the record of what a call in this mode did, for the values of the arguments
abbrev pub InMode : Mode → Choice → CallState → Status → CallState → Type 0
InMode Run choice = RunsChosen choice.kind
InMode Compare choice = Compares
InMode Bench choice = Benches choice
InMode Large choice = PlaysLarge
InMode Save choice = Saves
InMode Load choice = Loads
InMode Slice choice = PlaysSlices choice.quantum
InMode Quota choice = PlaysQuotas

-- the arguments choose a mode and its values, and the call did what these ask
pub record DoesChosen (words : List Text) (old : CallState) (status : Status) (new : CallState) : Type 0 where
  pub choice : Choice
  pub chosen : Chooses words choice
  pub done : InMode choice.mode choice old status new

-- With the status `Words` the arguments are refused, and the call changed nothing. With `OutOfMemory` it wrote nothing, and either changed nothing or did what
-- the arguments choose (`OrLacks`). With any other status it did what they choose.
abbrev pub EndsWell : List Text → CallState → Status → CallState → Type 0
EndsWell words old Words new = AreRefused words × (new ≡ old)
EndsWell words old status new = OrLacks (DoesChosen words) old status new

-- if the source is observable, `Claim` holds of the status, the bytes read and the bytes printed; else nothing is claimed
abbrev pub PrintsBytes : (Status → List ℕ → List ℕ → Type 0) → Option (List ℕ) → Effects → Type 0
PrintsBytes Claim None call = ⊤
PrintsBytes Claim (Some read) call = Prints Claim read call

-- What is claimed of the output of a call in this mode, if its source is observable; `kinds` are those of the given managers. `run`: the items and the replies
-- meet `MeetsHeadline` for the chosen kind. `compare`: so do the replies of each manager, for its kind. `large`, `slice`, `quota`: each reply is fixed by its
-- line and the lines before it, except the word that `p` prints in mode `slice`. `save` (`SavesAs`): the image of the objects that the script leaves; nothing
-- unless the status is `Done`. `load` (`LoadsAs`): the script that makes the image's objects, or the line `bad image`. `bench`: nothing is claimed here, since
-- clause `outcome` of `cf_main` has the whole claim.
abbrev pub PrintsInMode : Mode → Choice → List Kind → Effects → Type 0
PrintsInMode Run choice kinds call = MeetsClaim (MeetsHeadline choice.kind) call.had call
PrintsInMode Compare choice kinds call = MeetsClaim (MeetHeadlines kinds) call.had call
PrintsInMode Large choice kinds call = MeetsClaim (MeetsLarge Moving) call.had call
PrintsInMode Save choice kinds call = PrintsBytes SavesAs call.had call
PrintsInMode Load choice kinds call = PrintsBytes LoadsAs call.had call
PrintsInMode Slice choice kinds call = MeetsClaim (MeetsSliced choice.quantum) call.had call
PrintsInMode Quota choice kinds call = MeetsClaim MeetsTasks call.had call
PrintsInMode mode choice kinds call = ⊤

-- `PrintsInMode` for the choice that the arguments make and the kinds of the given managers
pub record PrintsChosen (words : List Text) (kinds : List Kind) (call : Effects) : Type 0 where
  pub choice : Choice
  pub chosen : Chooses words choice
  pub shows : PrintsInMode choice.mode choice kinds call

-- the statuses after which every item within the limit was answered, or an image was loaded or refused
abbrev pub AnswersInput : Status → Type 0
AnswersInput BadImage = ⊤
AnswersInput status = AnswersAll status

-- if every item was answered, or an image loaded or refused, the output is as claimed, whatever the chunks of the source
abbrev pub PrintsAsClaimed : List Text → CallState → Status → CallState → Type 0
PrintsAsClaimed words old status new = AnswersInput status → PrintsChosen words (kinds_in old) (effects_of old status new)

-- the input `had` is observable and right for the mode: in mode `load` an image, else a script within the limit with no bad line; in mode `bench`, which reads
-- nothing, any input is right, observable or not
abbrev pub IsRightInput : Mode → Option (List ℕ) → Type 0
IsRightInput Bench had = ⊤
IsRightInput Load had = GivesImage had
IsRightInput mode had = IsClean had

-- the arguments choose a mode, and the input is right for that mode
pub record HasRightInput (words : List Text) (had : Option (List ℕ)) : Type 0 where
  pub choice : Choice
  pub chosen : Chooses words choice
  pub right : IsRightInput choice.mode had
